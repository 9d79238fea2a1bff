-- What one more argument makes of a partial result, where the function takes it.
use Rattle.std.proofs.Common.{◌≡◌, refl, ℕ, zero, suc, ◌+◌, ◌-◌, ◌*◌, ◌^◌, ◌≤◌, ◌<◌, List, [], ◌∷◌, ◌++◌, length, All, slice_index_or, sym}
use Rattle.std.proofs.Common.{ap, subst, inl, inr, ◌∙◌, arith, length-append, Option, Some, None, true, false, cond, ℤ, pos, neg_ℤ, ◌≤ℤ◌}
use Rattle.std.proofs.Common.{FitsSigned}
use Rattle.std.proofs.lemmas.Int.{ints}
use Rattle.std.proofs.lemmas.List.Sums.{length-filter, count_by-le-length}
use Rattle.std.specs.Int.{w64}
use Rattle.std.specs.List.{AllByRecursion}
use Rattle.grouping_model.specs.Datum.{Datum, Null, Bigint, Boolean, Text, Bigint_kind, HasKind}
use Rattle.grouping_model.specs.Aggregates.{Function, Count_rows, Partial, Counted, Summed, Number, Truth_value, counts, number_of}
use Rattle.grouping_model.specs.Aggregates.{gathered, partial, numbers, total}
use Rattle.grouping_model.specs.Combining.{combine, transition}
use Rattle.grouping_model.specs.MemberLaws.{Member, from_contains}
use Rattle.grouping_model.specs.Lemmas.CombiningLaws.{partial_append}
use Rattle.grouping_model.specs.Lemmas.TransitionLaws.{Fits, kind_fits, alone, one_more, number_fits}
use Rattle.packed_rows.specs.View.{datum_of, row_of}
use Rattle.packed_rows.specs.declared.Value.{Value}
use Rattle.agg_protocol.specs.Signatures.{Values_of, signature}
use Rattle.agg_protocol.specs.Arguments.{Takes, IsArgument}
use Rattle.agg_protocol.specs.States.{Shape, IsState, IsTotal, shape_of, rows_of, most_rows, A_count, A_sum, A_number, A_truth}
use Rattle.agg_protocol.specs.DenotingLaws.{shape_known}

-- functions of sums, of numbers and of truth values take these
sums_taken : (f : Function) → shape_of f ≡ A_sum → (signature f).argument ≡ Values_of Bigint_kind
sums_taken Count_rows shape = cc
sums_taken f shape = cc

numbers_taken : (f : Function) → shape_of f ≡ A_number → (signature f).argument ≡ Values_of Bigint_kind
numbers_taken Count_rows shape = cc
numbers_taken f shape = cc

-- a value that a function of numbers takes fits 64 bits
takes_fit : (f : Function) (v : Datum) → Takes f v → shape_of f ≡ A_number → Fits v
takes_fit f v takes shape = kind_fits Bigint_kind v (subst (λ argument. IsArgument argument v) (numbers_taken f shape) takes)

-- the partial result of a list with one more argument
pub one_more_taken : (f : Function) (xs : List Datum) (v : Datum) → Takes f v → partial f (xs ++ v ∷ []) ≡ transition f (partial f xs) v
one_more_taken f xs v takes = one_more f xs v (takes_fit f v takes)

-- it is as much as the state of that argument alone, combined
pub taken_alone : (f : Function) (m : ℕ) (p : Partial) (v : Datum) → IsState m (shape_of f) p → Takes f v → transition f p v
    ≡ combine f p (partial f (v ∷ []))
taken_alone f m p v known takes = sym (alone f p v (shape_known m (shape_of f) p known) (takes_fit f v takes))

-- what a transition makes, and what combining makes, in the words of lists
pub moved_list : (f : Function) (p q : Partial) (v : Datum) → Takes f v → q ≡ transition f p v → (xs : List Datum) → p ≡ partial f xs → q
    ≡ partial f (xs ++ v ∷ [])
moved_list f p q v takes moved xs is = moved ∙ ap (λ r. transition f r v) is ∙ sym (one_more_taken f xs v takes)

pub combined_lists : (f : Function) (p q r : Partial) → r ≡ combine f p q → (xs ys : List Datum) → p ≡ partial f xs → q ≡ partial f ys → r
    ≡ partial f (xs ++ ys)
combined_lists f p q r both xs ys is is' = both ∙ (λ j. combine f (is j) (is' j)) ∙ sym (partial_append f xs ys)

-- ---- one more argument, by what the states of a function hold
pub number_first : (f : Function) → shape_of f ≡ A_number → partial f [] ≡ Number None
number_first Count_rows shape = cc
number_first f shape = cc

pub truth_first : (f : Function) → shape_of f ≡ A_truth → partial f [] ≡ Truth_value None
truth_first Count_rows shape = cc
truth_first f shape = cc

-- ---- rows
-- an argument is one row more at most
pub rows_step : (f : Function) (p : Partial) (v : Datum) → rows_of (transition f p v) ≤ rows_of p + 1
rows_step f (Counted n) v = elim (counts f v) as (λ b. n + cond b 1 0 ≤ n + 1) [ true ↦ omega arith | false ↦ omega arith ]
rows_step f (Summed n z) (Bigint x) = omega arith
rows_step f (Summed n z) v = omega arith
rows_step f (Number o) v = omega arith
rows_step f (Truth_value o) v = omega arith

-- a list counts no more rows than it has arguments
numbers_few : (xs : List Datum) → length (numbers xs) ≤ length xs
numbers_few [] = omega arith
numbers_few (Bigint z ∷ xs) = omega (arith, numbers_few xs)
numbers_few (x ∷ xs) = omega (arith, numbers_few xs)

pub rows_within : (f : Function) (xs : List Datum) → rows_of (partial f xs) ≤ length xs
rows_within f xs = by_shape (shape_of f)
  where
    by_shape : (s : Shape) → rows_of (gathered s f xs) ≤ length xs
    by_shape A_count = omega (arith, length-filter (counts f) xs, count_by-le-length (counts f) xs)
    by_shape A_sum = numbers_few xs
    by_shape A_number = omega arith
    by_shape A_truth = omega arith

pub rows_after : (f : Function) (p : Partial) (xs : List Datum) (v : Datum) → p ≡ partial f xs → length xs < most_rows
    → rows_of (transition f p v) ≤ most_rows
rows_after f p xs v is few = omega (arith, rows_step f p v, ap rows_of is, rows_within f xs)

pub rows_of_both : (f : Function) (p q : Partial) (xs ys : List Datum) → p ≡ partial f xs → q ≡ partial f ys → length xs
    + length ys ≤ most_rows → rows_of (combine f p q) ≤ most_rows
rows_of_both f p q xs ys is is' few =
    let both : rows_of (combine f p q)
    ≡ rows_of (partial f (xs ++ ys)) = ap rows_of (combined_lists f p q (combine f p q) refl xs ys is is') in
    omega (arith, rows_within f (xs ++ ys), length-append xs ys)

-- ---- states
-- the numbers among values of a bigint column fit 64 bits
numbers_fit : (xs : List Datum) → AllByRecursion (HasKind Bigint_kind) xs → AllByRecursion (FitsSigned w64) (numbers xs)
numbers_fit [] all = tt
numbers_fit (Null ∷ xs) all = numbers_fit xs all.1
numbers_fit (Bigint z ∷ xs) all = (all.0, numbers_fit xs all.1)
numbers_fit (Boolean b ∷ xs) all = absurd all.0
numbers_fit (Text text ∷ xs) all = absurd all.0

-- what holds of each holds of a member
of_member : {X : Type 0} (P : X → Type 0) (xs : List X) (x : X) → AllByRecursion P xs → Member xs x → P x
of_member P [] x all m = absurd m
of_member P (y ∷ ys) x all (inl same) = subst P same all.0
of_member P (y ∷ ys) x all (inr m) = of_member P ys x all.1 m

-- a sum of n numbers of 64 bits is a total of n
total_within : (zs : List ℤ) → AllByRecursion (FitsSigned w64) zs → IsTotal (length zs) (total zs)
total_within [] all = (omega (arith, ints), omega (arith, ints))
total_within (z ∷ zs) (fits, all) =
    let rest : IsTotal (length zs) (total zs) = total_within zs all in
    let low : neg_ℤ (pos (length zs * 2 ^ 63)) ≤ℤ total zs = rest.0 in
    let high : total zs ≤ℤ pos (length zs * (2 ^ 63 - 1)) = rest.1 in
    (omega (arith, ints, low, high, fits), omega (arith, ints, low, high, fits))

-- the partial result of arguments that a function takes is one of its states
pub partial_state : (f : Function) (xs : List Datum) → AllByRecursion (Takes f) xs → IsState (length xs) (shape_of f) (partial f xs)
partial_state f xs all = by_shape (shape_of f) refl (rows_within f xs)
  where
    of_bigints : (signature f).argument ≡ Values_of Bigint_kind → AllByRecursion (FitsSigned w64) (numbers xs)
    of_bigints takes = numbers_fit xs (subst (λ argument. AllByRecursion (IsArgument argument) xs) takes all)

    number_state : (o : Option ℤ) → ((z : ℤ) → o ≡ Some z → FitsSigned w64 z) → IsState (length xs) A_number (Number o)
    number_state None fits = tt
    number_state (Some z) fits = fits z refl

    by_shape : (s : Shape) → shape_of f ≡ s → rows_of (gathered s f xs) ≤ length xs → IsState (length xs) s (gathered s f xs)
    by_shape A_count shape few = few
    by_shape A_sum shape few = (few, total_within (numbers xs) (of_bigints (sums_taken f shape)))
    by_shape A_number shape few =
        number_state (number_of f (numbers xs))
        (number_fits f (numbers xs) (λ z c. of_member (FitsSigned w64) (numbers xs) z (of_bigints (numbers_taken f shape))
        (from_contains (numbers xs) z c)))
    by_shape A_truth shape few = tt

-- ---- the values of a list
pub takes_at : (f : Function) (values : List Value) (i : ℕ) (default : Value) → i < length values → All (Takes f) (row_of values)
    → Takes f (datum_of (slice_index_or values i default))
takes_at f [] i default in_range all = absurd (omega arith)
takes_at f (v ∷ values) zero default in_range all = all 0 (datum_of default) (omega arith)
takes_at f (v ∷ values) (suc i) default in_range all = takes_at f values i default (omega arith) (λ k d l. all (suc k) d (omega arith))
