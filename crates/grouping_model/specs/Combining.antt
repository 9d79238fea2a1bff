-- One partial result for the arguments of two lists, and one more argument
-- (PostgreSQL 17, CREATE AGGREGATE: combinefunc and sfunc; 36.12.4 Partial Aggregation).
use Rattle.std.specs.Prelude.{◌+◌, Bool, cond, ◌&&◌, ◌||◌, List, [], ◌∷◌, ℤ, ◌+ℤ◌, Option, Some, None}
use Rattle.std.specs.Int.{w64, int_min, int_max, int_bit_and, int_bit_or, int_bit_xor}
use Rattle.grouping_model.specs.Datum.{Datum, Bigint}
use Rattle.grouping_model.specs.Aggregates.{Function, Min, Max, Bit_and, Bit_or, Bit_xor, Bool_or, Partial, Counted, Summed, Number}
use Rattle.grouping_model.specs.Aggregates.{Truth_value, counts, as_number, as_boolean}

-- of two values that may be absent: the one that is there, or what both make
abbrev pub joined : {X : Type 0} → (X → X → X) → Option X → Option X → Option X
joined both None y = y
joined both (Some x) None = Some x
joined both (Some x) (Some y) = Some (both x y)

-- what a function makes of two numbers, and of two truth values
abbrev pub of_numbers : Function → ℤ → ℤ → ℤ
of_numbers Min = int_min
of_numbers Max = int_max
of_numbers Bit_and = int_bit_and w64
of_numbers Bit_or = int_bit_or w64
of_numbers Bit_xor = int_bit_xor w64
of_numbers other = λ x y. x

abbrev pub of_truths : Function → Bool → Bool → Bool
of_truths Bool_or = λ x y. x || y
of_truths other = λ x y. x && y

-- the partial result of both lists of arguments
abbrev pub combine : Function → Partial → Partial → Partial
combine function (Counted m) (Counted n) = Counted (m + n)
combine function (Summed m x) (Summed n y) = Summed (m + n) (x +ℤ y)
combine function (Number x) (Number y) = Number (joined (of_numbers function) x y)
combine function (Truth_value x) (Truth_value y) = Truth_value (joined (of_truths function) x y)
combine function p q = p

-- the partial results of both lists of arguments, one for each of some functions
abbrev pub combine_all : List Function → List Partial → List Partial → List Partial
combine_all (function ∷ functions) (p ∷ ps) (q ∷ qs) = combine function p q ∷ combine_all functions ps qs
combine_all functions ps qs = []

-- the partial result after one more argument: one more where it counts, and else with its number or its truth value.
-- So every function but count(*) passes over a null (PostgreSQL 17, CREATE AGGREGATE: a strict sfunc keeps its state)
abbrev pub transition : Function → Partial → Datum → Partial
transition function (Counted n) value = Counted (n + cond (counts function value) 1 0)
transition function (Summed n z) (Bigint x) = Summed (n + 1) (z +ℤ x)
transition function (Summed n z) other = Summed n z
transition function (Number x) value = Number (joined (of_numbers function) x (as_number value))
transition function (Truth_value a) value = Truth_value (joined (of_truths function) a (as_boolean value))
