use Rattle.std.proofs.Common.{sym, ◌∙◌, rules, tests}
use Rattle.std.proofs.lemmas.Iterator.{YieldsList-from_slice}
use Rattle.std.proofs.lemmas.Iterator.Search.{all_from_yields_List}
use Rattle.query_checks.specs.Forms.{item_form}
use Rattle.query_checks.specs.Reads.{is_grouped_by}
use Rattle.query_checks.proofs.WholeLaws.{items_pass}
use Rattle.query_checks.proofs.whole.items_are_grouped.Goals as goal

pub returns : goal.returns
returns c =
    all_from_yields_List (λ item. is_grouped_by c.args.keys.now (item_form item.0)) _ _ c.all.result c.all.ensures.ran
    (YieldsList-from_slice c.args.items.now cc) (λ x b q k. search (rules, tests))
    ∙ sym (items_pass (is_grouped_by c.args.keys.now) c.args.items.now)
