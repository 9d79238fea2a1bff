-- Laws: the order of an answer's rows is one in which any two rows compare, and one list of these rows is in it.
use Rattle.std.specs.Prelude.{◌≡◌, refl, ℕ, Bool, true, false, List, [], ◌∷◌, ℤ, pos}
use Rattle.std.proofs.Common.{◌∙◌, ap, subst, arith}
use Rattle.std.specs.declared.cmp.Ordering.{Ordering}
use Rattle.std.specs.declared.cmp.Ordering.TheVariants.{Less, Equal, Greater}
use Rattle.std.specs.Ordering.{nat_cmp, int_cmp, then_cmp, on, ordering_then}
use Rattle.std.specs.Cmp.{IsTotalOrder, IsStrictWeakOrder, then_total, on_total, nat_cmp_total, int_cmp_total}
use Rattle.std.proofs.lemmas.List.MinMax.{ranks_by}
use Rattle.std.specs.List.Sorted.{IsSortedBy, IsStableBy}
use Rattle.grouping_model.specs.Sorting.{put_before, sorted_once}
use Rattle.grouping_model.specs.Datum.{Datum, Null, datum_cmp}
use Rattle.grouping_model.specs.DatumOrderLaws.{datum_cmp_total}
use Rattle.grouping_model.specs.Aggregates.{Outcome, Plain, Numeric}
use Rattle.grouping_model.specs.Order.{Term, value_cmp, null_rank, directed, value_of, terms_cmp, comes_before, ordered}
use Rattle.std.proofs.lemmas.Bool.Decides.{nat_tests}
use Rattle.std.proofs.lemmas.Grind.{common_steps}

-- what a value has as a plain one, and as a numeric
is_plain : Outcome → ℕ
is_plain (Plain x) = 1
is_plain (Numeric x) = 0

plain_in : Outcome → Datum
plain_in (Plain x) = x
plain_in (Numeric x) = Null

numeric_in : Outcome → ℤ
numeric_in (Plain x) = pos 0
numeric_in (Numeric x) = x

abbrev by_parts : Outcome → Outcome → Ordering
by_parts = then_cmp (on is_plain nat_cmp) (then_cmp (on plain_in datum_cmp) (on numeric_in int_cmp))

then_equal : (r : Ordering) → ordering_then r Equal ≡ r
then_equal Less = refl
then_equal Equal = refl
then_equal Greater = refl

is_by_parts : (x y : Outcome) → by_parts x y ≡ value_cmp x y
unfolding is_plain plain_in numeric_in
is_by_parts (Plain x) (Plain y) = then_equal (datum_cmp x y)
is_by_parts (Plain x) (Numeric y) = refl
is_by_parts (Numeric x) (Plain y) = refl
is_by_parts (Numeric x) (Numeric y) = refl

pub value_cmp_total : IsTotalOrder value_cmp
value_cmp_total =
    subst IsTotalOrder (λ i x y. is_by_parts x y i)
    (then_total (on_total is_plain nat_cmp_total) (then_total (on_total plain_in datum_cmp_total) (on_total numeric_in int_cmp_total)))

-- an order the other way round
turned_total : {K : Type 0} (cmp : K → K → Ordering) → IsTotalOrder cmp → IsTotalOrder (λ x y. cmp y x)
turned_total cmp total = grind (arith, nat_tests, common_steps)

directed_total : (descending : Bool) → IsTotalOrder (directed descending)
directed_total true = turned_total value_cmp value_cmp_total
directed_total false = value_cmp_total

pub terms_cmp_total : (terms : List Term) → IsTotalOrder (terms_cmp terms)
terms_cmp_total [] = record { antisymm = λ x y. refl; trans = λ x y z p q. p; congr = λ x y z p. refl }
terms_cmp_total (term ∷ terms) =
    then_total (on_total (value_of term) (then_total (on_total (null_rank term.nulls_first) nat_cmp_total)
    (directed_total term.descending))) (terms_cmp_total terms)

pub any_compare : (terms : List Term) → IsStrictWeakOrder (comes_before terms)
any_compare terms = ranks_by (terms_cmp_total terms) (λ row. row)

-- a stable sort by the terms gives this list of rows, and no other
pub ordered_once : (terms : List Term) (rows found : List (List Outcome)) → IsSortedBy (comes_before terms) found
    → IsStableBy (comes_before terms) rows found → found ≡ ordered terms rows
ordered_once terms rows found sorted stable = sorted_once (comes_before terms) (any_compare terms) rows found sorted stable

-- without terms rows stand as they stood
pub unordered : (rows : List (List Outcome)) → ordered [] rows ≡ rows
unordered [] = refl
unordered (row ∷ rows) = ap (put_before (comes_before []) row) (unordered rows) ∙ first row rows
  where
    first : (row : List Outcome) (rows : List (List Outcome)) → put_before (comes_before []) row rows ≡ row ∷ rows
    first row [] = refl
    first row (next ∷ rows) = refl
