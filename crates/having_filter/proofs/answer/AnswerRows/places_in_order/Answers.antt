use Rattle.std.specs.Prelude.{◌≡◌, ℕ, ◌<◌, Bool, List, [], map, length, slice_index_or}
use Rattle.std.specs.Ordering.{is_lt}
use Rattle.std.specs.Cmp.{IsStrictWeakOrder}
use Rattle.std.proofs.Common.{◌∙◌, ap, rules}
use Rattle.std.proofs.lemmas.Fn.{always_returns_same}
use Rattle.std.proofs.lemmas.List.MinMax.{ranks_by}
use Rattle.std.proofs.lemmas.List.Sorted.{All-permutation}
use Rattle.having_filter.proofs.Words.{Outcome, order_term, Term, terms_cmp, comes_before}
use Rattle.grouping_model.specs.OrderLaws.{terms_cmp_total}
use Rattle.grouping_model.specs.Sorting.{sorted_by, sorted_once, sorted_mapped}
use Rattle.having_filter.proofs.answer.AnswerRows.places_in_order.Goals as goal

pub returns : goal.returns
returns c = record {
  rows =
      let rows : List (List Outcome) = c.args.self.now in
      let terms : List Term = map order_term c.args.terms.now in
      let row : ℕ → List Outcome = λ place. slice_index_or rows place [] in
      let before : ℕ → ℕ → Bool = λ a b. is_lt (terms_cmp terms (row a) (row b)) in
      let any : IsStrictWeakOrder before = ranks_by (terms_cmp_total terms) row in
      let one : c.sort_by.new.self.items ≡ _ =
      sorted_once before any c.in_ok-places.places.items c.sort_by.new.self.items
      (c.in_ok-sort_by.ensures.sorted before any (always_returns_same _ _ _ (λ a r f k. search rules)))
      (c.in_ok-sort_by.ensures.stable before any (always_returns_same _ _ _ (λ a r f k. search rules))) in
      ap (map row) one ∙ sorted_mapped (comes_before terms) row c.in_ok-places.places.items
      ∙ ap (λ those. sorted_by (comes_before terms) those) c.in_ok-places.ensures.rows;
  below = All-permutation (λ place. place < length c.args.self.now) _ _ c.in_ok-sort_by.ensures.permutation c.in_ok-places.ensures.below;
}
