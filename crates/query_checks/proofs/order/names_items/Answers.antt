use Rattle.std.proofs.Common.{sym, ◌∙◌, rules, tests}
use Rattle.std.specs.Prelude.{is_some}
use Rattle.std.proofs.lemmas.Iterator.{YieldsList-from_slice}
use Rattle.std.proofs.lemmas.Iterator.Search.{all_from_yields_List}
use Rattle.query_checks.specs.Forms.{items_of}
use Rattle.query_checks.specs.Order.{item_meant, term_of}
use Rattle.query_checks.proofs.OrderLaws.{all_terms}
use Rattle.query_checks.proofs.order.names_items.Goals as goal

pub returns : goal.returns
returns c =
    let items = items_of c.args.raw.now.items.items in
    all_from_yields_List (λ term. is_some (item_meant items (term_of term).target)) _ _ c.all.result c.all.ensures.ran
    (YieldsList-from_slice c.args.raw.now.order.items cc) (λ x b q k. search (rules, tests))
    ∙ sym (all_terms (λ term. is_some (item_meant items term.target)) c.args.raw.now.order.items)
