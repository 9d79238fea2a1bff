use Rattle.std.proofs.Common.{sym, ◌∙◌}
use Rattle.query_checks.proofs.WholeLaws.{items_known}
use Rattle.query_checks.proofs.whole.items_are_known.Goals as goal

pub returns : goal.returns
returns c = c.items_everywhere.ensures ∙ sym (items_known c.args.schema.now c.args.items.now)
