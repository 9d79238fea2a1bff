-- A function's partial result after one more argument, and an aggregate's after one more row.
use Rattle.std.specs.Prelude.{◌≡◌, ◌≢◌, refl, ℕ, ◌+◌, Bool, true, false, cond, List, [], ◌∷◌, ◌++◌, length, map, filter, zero, suc, ℤ, pos}
use Rattle.std.specs.Prelude.{◌+ℤ◌, FitsSigned, Contains, count_by, ◌%◌, ◌==◌, Option, Some, None}
use Rattle.std.proofs.Common.{sym, ◌∙◌, ap, subst, arith}
use Rattle.std.specs.Int.{w64}
use Rattle.std.proofs.Math.IntN.{+ℤ_idr}
use Rattle.std.proofs.lemmas.List.{append-nil, map-append}
use Rattle.std.proofs.lemmas.List.Elements.{filter-append}
use Rattle.std.proofs.lemmas.Option.{none-some, same_Some}
use Rattle.std.specs.List.{list_all, list_any}
use Rattle.grouping_model.specs.Datum.{Datum, Null, Bigint, Boolean, Text, Kind, Bigint_kind, Boolean_kind, Text_kind, HasKind, HasKinds}
use Rattle.grouping_model.specs.Datum.{Row, at_place}
use Rattle.grouping_model.specs.Aggregates.{Function, Count_rows, Min, Max, Bit_and, Bit_or, Bit_xor, Bool_and, Bool_or, Every, Partial}
use Rattle.grouping_model.specs.Aggregates.{Counted, Summed, Number, Truth_value, A_number, A_truth, shape_is, shape_of, counts, number_of}
use Rattle.grouping_model.specs.Aggregates.{truth_of, gathered, partial, of_some, number_of_bits, has_bit}
use Rattle.std.proofs.Math.Bool.{and-true}
use Rattle.grouping_model.specs.Combining.{joined, combine, transition, of_numbers, of_truths}
use Rattle.grouping_model.specs.Condition.{is_met}
use Rattle.grouping_model.specs.Query.{Aggregate}
use Rattle.grouping_model.specs.Grouping.{argument, arguments, column_of}
use Rattle.grouping_model.specs.Lemmas.AggregateLaws.{bits_of_one, bits_fit, least_of_one, least_is, greatest_of_one, greatest_is}
use Rattle.grouping_model.specs.Lemmas.CombiningLaws.{partial_append}
use Rattle.std.proofs.lemmas.Bool.Decides.{nat_tests}
use Rattle.std.proofs.lemmas.Grind.{common_steps}

pub joined-none : {X : Type 0} (both : X → X → X) (x : Option X) → joined both x None ≡ x
joined-none both None = refl
joined-none both (Some x) = refl

-- what a function makes of one number that fits, and of one truth value
number_of_one : (function : Function) (z : ℤ) → shape_of function ≡ A_number → FitsSigned w64 z → number_of function (z ∷ []) ≡ Some z
number_of_one Min z shape fits = least_of_one z
number_of_one Max z shape fits = greatest_of_one z
number_of_one Bit_and z shape fits = ap Some (bits_of_one z fits).0
number_of_one Bit_or z shape fits = ap Some (bits_of_one z fits).1
number_of_one Bit_xor z shape fits = ap Some (bits_of_one z fits).2
number_of_one other z shape fits = cc

truth_of_one : (function : Function) (b : Bool) → shape_of function ≡ A_truth → truth_of function (b ∷ []) ≡ Some b
truth_of_one Bool_or true shape = refl
truth_of_one Bool_or false shape = refl
truth_of_one Bool_and b shape = ap Some (and-true b)
truth_of_one Every b shape = ap Some (and-true b)
truth_of_one other b shape = cc

-- what a function makes of no number, and of no truth value
number_of_none : (function : Function) → number_of function [] ≡ None
number_of_none Count_rows = refl
number_of_none function = refl

truth_of_none : (function : Function) → truth_of function [] ≡ None
truth_of_none Count_rows = refl
truth_of_none function = refl

-- bits are a number that fits
of_some_fits : (bits : List ℤ → ℕ → Bool) (zs : List ℤ) (z : ℤ) → of_some (λ ys. number_of_bits (bits ys)) zs ≡ Some z → FitsSigned w64 z
of_some_fits bits [] z e = absurd (none-some z e)
of_some_fits bits (y ∷ ys) z e = subst (FitsSigned w64) (same_Some (number_of_bits (bits (y ∷ ys))) z e) (bits_fit (bits (y ∷ ys)))

-- what a function makes of numbers that fit
pub number_fits : (function : Function) (zs : List ℤ) → ((y : ℤ) → Contains zs y → FitsSigned w64 y) → (z : ℤ) → number_of function zs
    ≡ Some z → FitsSigned w64 z
number_fits Min zs fits z e = fits z ((least_is zs z).0 e).0
number_fits Max zs fits z e = fits z ((greatest_is zs z).0 e).0
number_fits Bit_and zs fits z e = of_some_fits (λ ys i. list_all (has_bit i) ys) zs z e
number_fits Bit_or zs fits z e = of_some_fits (λ ys i. list_any (has_bit i) ys) zs z e
number_fits Bit_xor zs fits z e = of_some_fits (λ ys i. count_by (has_bit i) ys % 2 == 1) zs z e
number_fits other zs fits z e = cc

-- a function's partial results have its form
pub shape_partial : (function : Function) (xs : List Datum) → shape_is (partial function xs) ≡ shape_of function
shape_partial function xs = grind (arith, nat_tests, common_steps)

-- a number fits 64 bits
abbrev pub Fits : Datum → Type 0
Fits (Bigint z) = FitsSigned w64 z
Fits other = Unit {0}

pub kind_fits : (kind : Kind) (value : Datum) → HasKind kind value → Fits value
kind_fits kind Null has = tt
kind_fits Bigint_kind (Bigint z) has = has
kind_fits Boolean_kind (Bigint z) has = absurd has
kind_fits Text_kind (Bigint z) has = absurd has
kind_fits kind (Boolean b) has = tt
kind_fits kind (Text text) has = tt

-- a transition is as much as combining with the partial result of the argument alone, whatever is known of other arguments
pub alone : (function : Function) (p : Partial) (value : Datum) → shape_is p ≡ shape_of function
    → (shape_of function ≡ A_number → Fits value)
    → combine function p (partial function (value ∷ [])) ≡ transition function p value
alone function p value same fits = ap (λ shape. combine function p (gathered shape function (value ∷ []))) (sym same)
    ∙ by_shape p value same fits
  where
    counted : (n : ℕ) (value : Datum) (b : Bool) → Counted (n + length (cond b (value ∷ []) [])) ≡ Counted (n + cond b 1 0)
    counted n value true = refl
    counted n value false = refl

    summed-none : (n : ℕ) (z : ℤ) → Summed (n + 0) (z +ℤ pos 0) ≡ Summed n z
    summed-none n z = let e : n + 0 ≡ n = omega arith in λ i. Summed (e i) (+ℤ_idr z i)

    no_number : (o : Option ℤ) → Number (joined (of_numbers function) o (number_of function []))
        ≡ Number (joined (of_numbers function) o None)
    no_number o = ap (λ y. Number (joined (of_numbers function) o y)) (number_of_none function)

    no_truth : (o : Option Bool) → Truth_value (joined (of_truths function) o (truth_of function []))
        ≡ Truth_value (joined (of_truths function) o None)
    no_truth o = ap (λ y. Truth_value (joined (of_truths function) o y)) (truth_of_none function)

    by_shape : (p : Partial) (value : Datum) → shape_is p ≡ shape_of function → (shape_of function ≡ A_number → Fits value)
        → combine function p (gathered (shape_is p) function (value ∷ [])) ≡ transition function p value
    by_shape (Counted n) value same fits = counted n value (counts function value)
    by_shape (Summed n z) Null same fits = summed-none n z
    by_shape (Summed n z) (Bigint x) same fits = ap (λ y. Summed (n + 1) (z +ℤ y)) (+ℤ_idr x)
    by_shape (Summed n z) (Boolean b) same fits = summed-none n z
    by_shape (Summed n z) (Text text) same fits = summed-none n z
    by_shape (Number o) Null same fits = no_number o
    by_shape (Number o) (Bigint x) same fits = ap (λ y. Number (joined (of_numbers function) o y))
        (number_of_one function x (sym same) (fits (sym same)))
    by_shape (Number o) (Boolean b) same fits = no_number o
    by_shape (Number o) (Text text) same fits = no_number o
    by_shape (Truth_value o) Null same fits = no_truth o
    by_shape (Truth_value o) (Bigint x) same fits = no_truth o
    by_shape (Truth_value o) (Boolean b) same fits = ap (λ y. Truth_value (joined (of_truths function) o y))
        (truth_of_one function b (sym same))
    by_shape (Truth_value o) (Text text) same fits = no_truth o

pub one_more : (function : Function) (xs : List Datum) (value : Datum) → (shape_of function ≡ A_number → Fits value)
    → partial function (xs ++ value ∷ []) ≡ transition function (partial function xs) value
one_more function xs value fits = partial_append function xs (value ∷ [])
    ∙ alone function (partial function xs) value (shape_partial function xs) fits

pub one_more_argument : (function : Function) (xs : List Datum) (kind : Kind) (value : Datum) → HasKind kind value
    → partial function (xs ++ value ∷ []) ≡ transition function (partial function xs) value
one_more_argument function xs kind value has = one_more function xs value (λ shape. kind_fits kind value has)

-- count(*) counts each row
pub each_row_counts : (xs : List Datum) → partial Count_rows xs ≡ Counted (length xs)
each_row_counts xs = ap Counted (all xs)
  where
    all : (xs : List Datum) → length (filter (counts Count_rows) xs) ≡ length xs
    all [] = refl
    all (x ∷ xs) = ap suc (all xs)

-- every function but count(*) passes over a null
pub null_passes : (function : Function) (p : Partial) → function ≢ Count_rows → transition function p Null ≡ p
null_passes function (Counted n) other = grind (arith, nat_tests, common_steps)
null_passes function (Summed n z) other = refl
null_passes function (Number o) other = ap Number (joined-none (of_numbers function) o)
null_passes function (Truth_value o) other = ap Truth_value (joined-none (of_truths function) o)

-- a column's value has the column's kind; null beyond the last column has any
column_kind : (kinds : List Kind) (row : Row) → HasKinds kinds row → (place : ℕ) → (kind : Kind) × HasKind kind (at_place row place)
column_kind [] [] has place = (Text_kind, tt)
column_kind [] (value ∷ row) has place = absurd has
column_kind (kind ∷ kinds) [] has place = absurd has
column_kind (kind ∷ kinds) (value ∷ row) has zero = (kind, has.0)
column_kind (kind ∷ kinds) (value ∷ row) has (suc place) = column_kind kinds row has.1 place

argument_kind : (kinds : List Kind) (row : Row) → HasKinds kinds row → (column : Option ℕ) → (kind : Kind)
    × HasKind kind (argument column row)
argument_kind kinds row has None = (Text_kind, tt)
argument_kind kinds row has (Some place) = column_kind kinds row has place

pub one_more_row : (aggregate : Aggregate) (kinds : List Kind) (rows : List Row) (row : Row) → HasKinds kinds row
    → partial aggregate.function (arguments aggregate (rows ++ row ∷ []))
    ≡ cond (is_met (column_of row) aggregate.filter) (transition aggregate.function (partial aggregate.function (arguments aggregate rows))
    (argument aggregate.column row)) (partial aggregate.function (arguments aggregate rows))
one_more_row aggregate kinds rows row has =
    ap (partial aggregate.function)
    (ap (map (argument aggregate.column)) (filter-append reaches rows (row ∷ []))
    ∙ map-append (argument aggregate.column) (filter reaches rows) (filter reaches (row ∷ [])))
    ∙ by_filter (reaches row)
  where
    reaches : Row → Bool
    reaches = λ row. is_met (column_of row) aggregate.filter

    by_filter : (b : Bool) → partial aggregate.function (arguments aggregate rows ++ map (argument aggregate.column) (cond b (row ∷ []) []))
        ≡ cond b (transition aggregate.function (partial aggregate.function (arguments aggregate rows)) (argument aggregate.column row))
        (partial aggregate.function (arguments aggregate rows))
    by_filter true =
        let kind = argument_kind kinds row has aggregate.column in
        one_more_argument aggregate.function (arguments aggregate rows) kind.0 (argument aggregate.column row) kind.1
    by_filter false = ap (partial aggregate.function) (append-nil (arguments aggregate rows))
