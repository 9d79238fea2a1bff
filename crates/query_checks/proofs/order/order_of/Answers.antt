use Rattle.std.proofs.Common.{◌≡◌, ◌<◌, ◌≤◌, List, length, get_or, ap, sym, ◌∙◌, subst}
use Rattle.std.proofs.lemmas.List.{take_all}
use Rattle.std.specs.List.{filter_map}
use Rattle.query_checks.specs.declared.order.RawTerm.{RawTerm}
use Rattle.query_checks.specs.Forms.{items_of}
use Rattle.query_checks.specs.Order.{term_of, term_meant, same_item}
use Rattle.query_checks.specs.Sameness.{with_one, first_of_each}
use Rattle.query_checks.proofs.OrderLaws.{meant_one, meant_none, meant_mapped}
use Rattle.query_checks.proofs.order.order_of.Goals.{in-Some+in_ok-push_once, in_default}
use Rattle.query_checks.proofs.order.order_of.Goals as goal

pub loop-term-preserved : goal.loop-term-preserved
loop-term-preserved c =
    let items = items_of c.args.raw.now.items.items in
    let terms = c.args.raw.now.order.items in
    let place = c.loop-term.term-index in
    let term = c.term-item.result in
    let meant = λ (term : RawTerm). term_meant items (term_of term) in
    let low : place < length terms = subst (λ (those : List RawTerm). place < length those) c.deref-term-items.ensures.value
    c.loop-term-test.true in
    let is : term ≡ get_or terms place term = subst (λ (those : List RawTerm). term ≡ get_or those place term)
    c.deref-term-items.ensures.value c.term-item.is in
    let found : c.term_meant.result ≡ meant term = c.term_meant.ensures
    ∙ ap (λ items. term_meant (items_of items) (term_of term)) c.deref.ensures.value in
    elim c.match-term_meant.branch [
      | in-Some+in_ok-push_once w ↦
          ap (λ order. order.items) w.order-is ∙ w.in_ok-push_once.ensures
          ∙ ap (λ order. with_one same_item order w.in-Some.found) c.loop-term.invariant
          ∙ sym (meant_one meant terms place term w.in-Some.found low is (sym found ∙ w.in-Some.is))
      | in_default w ↦
          ap (λ order. order.items) w.order-is ∙ c.loop-term.invariant
          ∙ sym (meant_none meant terms place term low is (sym found ∙ w.in_default.is))
    ]

pub returns : goal.returns
returns c =
    let items = items_of c.args.raw.now.items.items in
    let terms = c.args.raw.now.order.items in
    let place = c.loop-term.term-index in
    let meant = λ (term : RawTerm). term_meant items (term_of term) in
    let past : length terms ≤ place = subst (λ (those : List RawTerm). length those ≤ place) c.deref-term-items.ensures.value
    c.loop-term-test.false in
    c.loop-term.invariant
    ∙ ap (λ terms. first_of_each same_item (filter_map meant terms)) (take_all place terms past)
    ∙ ap (first_of_each same_item) (sym (meant_mapped (term_meant items) terms))
