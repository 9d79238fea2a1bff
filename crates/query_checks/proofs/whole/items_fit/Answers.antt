use Rattle.std.proofs.Common.{sym, ◌∙◌, rules, tests}
use Rattle.std.proofs.lemmas.Iterator.{YieldsList-from_slice}
use Rattle.std.proofs.lemmas.Iterator.Search.{all_from_yields_List}
use Rattle.packed_rows.specs.View.{kinds_of}
use Rattle.query_checks.specs.Forms.{item_form}
use Rattle.query_checks.specs.Checks.{operands_fit}
use Rattle.query_checks.proofs.WholeLaws.{items_pass}
use Rattle.query_checks.proofs.whole.items_fit.Goals as goal

pub returns : goal.returns
returns c =
    all_from_yields_List (λ item. operands_fit (kinds_of c.args.kinds.now) (item_form item.0)) _ _ c.all.result c.all.ensures.ran
    (YieldsList-from_slice c.args.items.now cc) (λ x b q k. search (rules, tests))
    ∙ sym (items_pass (operands_fit (kinds_of c.args.kinds.now)) c.args.items.now)
