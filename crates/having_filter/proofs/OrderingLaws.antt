-- How rows compare by the terms of ORDER BY, and their places in that order.
use Rattle.std.specs.Prelude.{◌≡◌, ◌≢◌, ℕ, ◌+◌, ◌<◌, ◌≤◌, List, [], map, drop, length, slice_index_or}
use Rattle.std.proofs.Common.{sym, ◌∙◌, ap, get_or, arith}
use Rattle.std.proofs.lemmas.List.{drop_all}
use Rattle.std.specs.declared.cmp.Ordering.{Ordering}
use Rattle.std.specs.declared.cmp.Ordering.TheVariants.{Equal}
use Rattle.having_filter.proofs.Words.{Outcome, Plain, by_term, terms_cmp, ordered, order_term}
use Rattle.grouping_model.specs.Datum.{Null}
use Rattle.grouping_model.specs.OrderLaws.{unordered}
use Rattle.query_checks.specs.declared.order.OrderTerm.{OrderTerm}
use Rattle.std.proofs.lemmas.Bool.Decides.{nat_tests}
use Rattle.std.proofs.lemmas.Grind.{common_steps}

pub apart_at : (terms : List OrderTerm) (i : ℕ) (term : OrderTerm) (a b : List Outcome) (x y : Outcome) (order : Ordering)
    → terms_cmp (map order_term terms) a b ≡ terms_cmp (map order_term (drop i terms)) a b
    → i < length terms → x ≡ slice_index_or a (get_or terms i term).item (Plain Null) → y
    ≡ slice_index_or b (get_or terms i term).item (Plain Null)
    → order ≡ by_term (order_term (get_or terms i term)) x y → order ≢ Equal → order ≡ terms_cmp (map order_term terms) a b
apart_at terms i term a b x y order same low first second is apart = grind (arith, nat_tests, common_steps)

-- one that does not
pub alike_at : (terms : List OrderTerm) (i : ℕ) (term : OrderTerm) (a b : List Outcome) (x y : Outcome) (order : Ordering)
    → terms_cmp (map order_term terms) a b ≡ terms_cmp (map order_term (drop i terms)) a b
    → i < length terms → x ≡ slice_index_or a (get_or terms i term).item (Plain Null) → y
    ≡ slice_index_or b (get_or terms i term).item (Plain Null)
    → order ≡ by_term (order_term (get_or terms i term)) x y → order ≡ Equal → terms_cmp (map order_term terms) a b
    ≡ terms_cmp (map order_term (drop (i + 1) terms)) a b
alike_at terms i term a b x y order same low first second is alike = grind (arith, nat_tests, common_steps)

-- none is left
pub none_apart : (terms : List OrderTerm) (i : ℕ) (a b : List Outcome) → terms_cmp (map order_term terms) a b
    ≡ terms_cmp (map order_term (drop i terms)) a b → length terms ≤ i → Equal ≡ terms_cmp (map order_term terms) a b
none_apart terms i a b same past = sym (same ∙ ap (λ those. terms_cmp (map order_term those) a b) (drop_all i terms past))

-- without terms rows stand as they were made
pub as_made : (terms : List OrderTerm) (rows : List (List Outcome)) → terms ≡ [] → rows ≡ ordered (map order_term terms) rows
as_made terms rows none = sym (unordered rows) ∙ ap (λ those. ordered (map order_term those) rows) (sym none)
