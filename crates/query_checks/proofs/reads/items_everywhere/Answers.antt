use Rattle.std.proofs.Common.{sym, ◌∙◌, rules, tests}
use Rattle.std.proofs.lemmas.Iterator.{YieldsList-from_slice}
use Rattle.std.proofs.lemmas.Iterator.Search.{all_from_yields_List}
use Rattle.query_checks.specs.Forms.{item_form}
use Rattle.query_checks.specs.Reads.{everywhere}
use Rattle.query_checks.proofs.WholeLaws.{items_pass}
use Rattle.query_checks.proofs.reads.items_everywhere.Goals as goal

pub returns : goal.returns
returns g c =
    all_from_yields_List (λ item. everywhere (g.T.Test.passes c.args.test.now) (item_form item.0)) _ _ c.all.result c.all.ensures.ran
    (YieldsList-from_slice c.args.items.now cc) (λ x b q k. search (rules, tests))
    ∙ sym (items_pass (everywhere (g.T.Test.passes c.args.test.now)) c.args.items.now)
