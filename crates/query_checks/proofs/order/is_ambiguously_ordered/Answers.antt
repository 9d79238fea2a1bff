use Rattle.std.proofs.Common.{sym, ◌∙◌, rules, tests}
use Rattle.std.proofs.lemmas.Iterator.{YieldsList-from_slice}
use Rattle.std.proofs.lemmas.Iterator.Search.{any_from_yields_List}
use Rattle.query_checks.specs.Forms.{items_of}
use Rattle.query_checks.specs.Order.{is_ambiguous, term_of}
use Rattle.query_checks.proofs.OrderLaws.{any_term}
use Rattle.query_checks.proofs.order.is_ambiguously_ordered.Goals as goal

pub returns : goal.returns
returns c =
    let items = items_of c.args.raw.now.items.items in
    any_from_yields_List (λ term. is_ambiguous items (term_of term).target) _ _ c.any.result c.any.ensures.ran
    (YieldsList-from_slice c.args.raw.now.order.items cc) (λ x b q k. search (rules, tests))
    ∙ sym (any_term (λ term. is_ambiguous items term.target) c.args.raw.now.order.items)
