-- A function's partial result of two lists of arguments appended is what their partial results combine to.
use Rattle.std.specs.Prelude.{◌≡◌, refl, ℕ, ◌+◌, ◌%◌, ◌^◌, ◌<◌, ◌==◌, min, max, Bool, true, false, cond, ◌&&◌, ◌||◌, List, [], ◌∷◌, ◌++◌}
use Rattle.std.specs.Prelude.{length, map, filter, count_by, ℤ, ◌+ℤ◌, bit_and, bit_or, bit_xor, Some}
use Rattle.std.proofs.Common.{sym, ◌∙◌, ap, arith}
use Rattle.std.specs.List.{list_all, list_any}
use Rattle.std.specs.Int.{w64, cast_unsigned, cast_signed, bit_at, int_bit_and, int_bit_or, int_bit_xor}
use Rattle.std.specs.Int.Bits.{and_lt}
use Rattle.std.proofs.lemmas.Nat.{or_lt, xor_lt}
use Rattle.std.proofs.lemmas.Nat.Bits.{bit_at_and, bit_at_or, bit_at_xor, same_from_bits_below}
use Rattle.std.proofs.lemmas.Int.{of_z-to_z}
use Rattle.std.proofs.lemmas.List.{length-append, append-nil, map-append}
use Rattle.std.proofs.lemmas.List.Elements.{filter-append, filter_map-append}
use Rattle.std.proofs.lemmas.List.Folds.{list_all-append, list_any-append}
use Rattle.std.proofs.lemmas.List.Sums.{sum_by-append}
use Rattle.std.proofs.Math.IntN.{+ℤ_assoc, +ℤ_idl}
use Rattle.std.proofs.Math.Nat.{add-mod}
use Rattle.grouping_model.specs.Datum.{Datum, Row}
use Rattle.grouping_model.specs.Aggregates.{Function, Min, Max, Bit_and, Bit_or, Bit_xor, Bool_and, Bool_or, Every, Shape, A_count, A_sum}
use Rattle.grouping_model.specs.Aggregates.{A_number, A_truth, shape_of, Counted, Summed, Number, Truth_value, counts, number_of, truth_of}
use Rattle.grouping_model.specs.Aggregates.{gathered, partial, numbers, booleans, as_number, as_boolean, total, has_bit, unsigned_of_bits}
use Rattle.grouping_model.specs.Aggregates.{number_of_bits, bits_of_all, bits_of_some, bits_of_odd, of_some}
use Rattle.grouping_model.specs.Combining.{joined, of_numbers, of_truths, combine}
use Rattle.grouping_model.specs.Condition.{is_met}
use Rattle.grouping_model.specs.Query.{Aggregate}
use Rattle.grouping_model.specs.Grouping.{argument, arguments, column_of}
use Rattle.grouping_model.specs.Lemmas.AggregateLaws.{least_append, greatest_append, bits_below, unsigned_bit_is}
use Rattle.std.proofs.lemmas.Bool.Decides.{nat_tests}
use Rattle.std.proofs.lemmas.Grind.{common_steps}

total-append : (xs ys : List ℤ) → total (xs ++ ys) ≡ total xs +ℤ total ys
total-append [] ys = sym (+ℤ_idl (total ys))
total-append (x ∷ xs) ys = ap (λ z. x +ℤ z) (total-append xs ys) ∙ sym (+ℤ_assoc x (total xs) (total ys))

-- a function of lists that are not empty, where it follows from its values at both parts
some-append : {X Y : Type 0} (f : List X → Y) (both : Y → Y → Y) → ((xs ys : List X) → f (xs ++ ys) ≡ both (f xs) (f ys)) → (xs ys : List X)
    → of_some f (xs ++ ys) ≡ joined both (of_some f xs) (of_some f ys)
some-append f both law [] ys = refl
some-append f both law (x ∷ xs) [] = ap (λ zs. Some (f (x ∷ zs))) (append-nil xs)
some-append f both law (x ∷ xs) (y ∷ ys) = ap Some (law (x ∷ xs) (y ∷ ys))

abbrev digit : Bool → ℕ
digit b = cond b 1 0

-- an operation on numbers, bit by bit
by_bits : (op : ℕ → ℕ → ℕ) (on_digits : ℕ → ℕ → ℕ) → ((a b : ℕ) → a < 2 ^ 64 → b < 2 ^ 64 → op a b < 2 ^ 64)
    → ((a b i : ℕ) → bit_at (op a b) i ≡ on_digits (bit_at a i) (bit_at b i)) → (f g h : ℕ → Bool)
    → ((i : ℕ) → digit (h i) ≡ on_digits (digit (f i)) (digit (g i))) → number_of_bits h
    ≡ cast_signed w64 (op (cast_unsigned w64 (number_of_bits f)) (cast_unsigned w64 (number_of_bits g)))
by_bits op on_digits fits bits f g h digits =
    ap (cast_signed w64)
    (same_from_bits_below 64 (unsigned_of_bits h 64) (op (unsigned_of_bits f 64) (unsigned_of_bits g 64)) (bits_below h 64)
    (fits (unsigned_of_bits f 64) (unsigned_of_bits g 64) (bits_below f 64) (bits_below g 64))
    (λ i l.
    unsigned_bit_is h 64 i l
    ∙ digits i
    ∙ (λ j. on_digits (sym (unsigned_bit_is f 64 i l) j) (sym (unsigned_bit_is g 64 i l) j))
    ∙ sym (bits (unsigned_of_bits f 64) (unsigned_of_bits g 64) i)))
    ∙ (λ j. cast_signed w64 (op (sym (of_z-to_z w64 (unsigned_of_bits f 64) (bits_below f 64)) j)
    (sym (of_z-to_z w64 (unsigned_of_bits g 64) (bits_below g 64)) j)))

digit_and : (a b : Bool) → digit (a && b) ≡ min (digit a) (digit b)
digit_and true true = refl
digit_and true false = refl
digit_and false true = refl
digit_and false false = refl

digit_or : (a b : Bool) → digit (a || b) ≡ max (digit a) (digit b)
digit_or true true = refl
digit_or true false = refl
digit_or false true = refl
digit_or false false = refl

all_bits : (xs ys : List ℤ) → bits_of_all (xs ++ ys) ≡ int_bit_and w64 (bits_of_all xs) (bits_of_all ys)
all_bits xs ys =
    by_bits bit_and min (and_lt 64) bit_at_and (λ i. list_all (has_bit i) xs) (λ i. list_all (has_bit i) ys)
    (λ i. list_all (has_bit i) (xs ++ ys))
    (λ i. ap digit (list_all-append (has_bit i) xs ys) ∙ digit_and (list_all (has_bit i) xs) (list_all (has_bit i) ys))

some_bits : (xs ys : List ℤ) → bits_of_some (xs ++ ys) ≡ int_bit_or w64 (bits_of_some xs) (bits_of_some ys)
some_bits xs ys =
    by_bits bit_or max (or_lt 64) bit_at_or (λ i. list_any (has_bit i) xs) (λ i. list_any (has_bit i) ys)
    (λ i. list_any (has_bit i) (xs ++ ys))
    (λ i. ap digit (list_any-append (has_bit i) xs ys) ∙ digit_or (list_any (has_bit i) xs) (list_any (has_bit i) ys))

odd_digit : (n : ℕ) → digit (n % 2 == 1) ≡ n % 2
odd_digit n = grind (arith, nat_tests, common_steps)

odd_bits : (xs ys : List ℤ) → bits_of_odd (xs ++ ys) ≡ int_bit_xor w64 (bits_of_odd xs) (bits_of_odd ys)
odd_bits xs ys =
    by_bits bit_xor (λ a b. (a + b) % 2) (xor_lt 64) bit_at_xor (λ i. count_by (has_bit i) xs % 2 == 1)
    (λ i. count_by (has_bit i) ys % 2 == 1) (λ i. count_by (has_bit i) (xs ++ ys) % 2 == 1)
    (λ i.
    odd_digit (count_by (has_bit i) (xs ++ ys))
    ∙ ap (λ n. n % 2) (sum_by-append (λ z. cond (has_bit i z) 1 0) xs ys)
    ∙ add-mod (count_by (has_bit i) xs) (count_by (has_bit i) ys) 2
    ∙ (λ j. (sym (odd_digit (count_by (has_bit i) xs)) j + sym (odd_digit (count_by (has_bit i) ys)) j) % 2))

-- what a function makes of the numbers, or of the truth values, of both lists
number_append : (function : Function) (xs ys : List ℤ) → number_of function (xs ++ ys)
    ≡ joined (of_numbers function) (number_of function xs) (number_of function ys)
number_append Min xs ys = least_append xs ys
number_append Max xs ys = greatest_append xs ys
number_append Bit_and xs ys = some-append bits_of_all (int_bit_and w64) all_bits xs ys
number_append Bit_or xs ys = some-append bits_of_some (int_bit_or w64) some_bits xs ys
number_append Bit_xor xs ys = some-append bits_of_odd (int_bit_xor w64) odd_bits xs ys
number_append other xs ys = refl

truth_append : (function : Function) (xs ys : List Bool) → truth_of function (xs ++ ys)
    ≡ joined (of_truths function) (truth_of function xs) (truth_of function ys)
truth_append Bool_or xs ys = some-append (list_any (λ b. b)) (λ x y. x || y) (list_any-append (λ b. b)) xs ys
truth_append Bool_and xs ys = some-append (list_all (λ b. b)) (λ x y. x && y) (list_all-append (λ b. b)) xs ys
truth_append Every xs ys = some-append (list_all (λ b. b)) (λ x y. x && y) (list_all-append (λ b. b)) xs ys
truth_append other xs ys = refl

pub partial_append : (function : Function) (xs ys : List Datum) → partial function (xs ++ ys)
    ≡ combine function (partial function xs) (partial function ys)
partial_append function xs ys = by_shape (shape_of function)
  where
    by_shape : (shape : Shape) → gathered shape function (xs ++ ys)
        ≡ combine function (gathered shape function xs) (gathered shape function ys)
    by_shape A_count =
        ap Counted (ap length (filter-append (counts function) xs ys)
        ∙ length-append (filter (counts function) xs) (filter (counts function) ys))
    by_shape A_sum =
        λ i. Summed
        ((ap length (filter_map-append as_number xs ys) ∙ length-append (numbers xs) (numbers ys)) i)
        ((ap total (filter_map-append as_number xs ys) ∙ total-append (numbers xs) (numbers ys)) i)
    by_shape A_number = ap Number (ap (number_of function) (filter_map-append as_number xs ys)
        ∙ number_append function (numbers xs) (numbers ys))
    by_shape A_truth = ap Truth_value (ap (truth_of function) (filter_map-append as_boolean xs ys)
        ∙ truth_append function (booleans xs) (booleans ys))

pub rows_append : (aggregate : Aggregate) (xs ys : List Row) → partial aggregate.function (arguments aggregate (xs ++ ys))
    ≡ combine aggregate.function (partial aggregate.function (arguments aggregate xs)) (partial aggregate.function (arguments aggregate ys))
rows_append aggregate xs ys =
    ap (partial aggregate.function)
    (ap (map (argument aggregate.column)) (filter-append reaches xs ys)
    ∙ map-append (argument aggregate.column) (filter reaches xs) (filter reaches ys))
    ∙ partial_append aggregate.function (arguments aggregate xs) (arguments aggregate ys)
  where
    reaches : Row → Bool
    reaches = λ row. is_met (column_of row) aggregate.filter
