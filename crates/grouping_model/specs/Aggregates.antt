-- The aggregate functions: what each makes of a whole list of arguments (PostgreSQL 17, 9.21 Aggregate Functions).
use Rattle.std.specs.Prelude.{ℕ, zero, suc, ◌+◌, ◌*◌, ◌^◌, ◌%◌, ◌==◌, Bool, true, false, cond, not, List, [], ◌∷◌, length, filter, find}
use Rattle.std.specs.Prelude.{count_by, filter_map, ℤ, pos, ◌+ℤ◌, int_le, Option, Some, None}
use Rattle.std.specs.Int.{w64, cast_unsigned, cast_signed, bit_at}
use Rattle.std.specs.List.{list_all, list_any}
use Rattle.grouping_model.specs.Datum.{Datum, Null, Bigint, Boolean}

-- the functions. Count_rows is count(*), and every is another name of bool_and (PostgreSQL 17, 9.21)
pub data Function : Type 0 where
  Count_rows Count Sum Min Max Bit_and Bit_or Bit_xor Bool_and Bool_or Every : Function

-- a partial result: what a function keeps of some of its arguments, enough to go on with others (PostgreSQL 17, 36.12.4
-- Partial Aggregation; the form of each is our own)
pub data Partial : Type 0 where
  -- how many there are
  Counted : ℕ → Partial
  -- how many there are, and their sum
  Summed : ℕ → ℤ → Partial
  -- the number so far, absent where there is no argument
  Number : Option ℤ → Partial
  -- the truth value so far, absent where there is no argument
  Truth_value : Option Bool → Partial

-- which of these forms a partial result has
pub data Shape : Type 0 where
  A_count A_sum A_number A_truth : Shape

abbrev pub shape_is : Partial → Shape
shape_is (Counted n) = A_count
shape_is (Summed n z) = A_sum
shape_is (Number o) = A_number
shape_is (Truth_value o) = A_truth

-- the form of a function's partial results (own)
abbrev pub shape_of : Function → Shape
shape_of Count_rows = A_count
shape_of Count = A_count
shape_of Sum = A_sum
shape_of Min = A_number
shape_of Max = A_number
shape_of Bit_and = A_number
shape_of Bit_or = A_number
shape_of Bit_xor = A_number
shape_of Bool_and = A_truth
shape_of Bool_or = A_truth
shape_of Every = A_truth

-- what a function answers: a value, or a sum, which is numeric: whole and exact, as wide as it must be
-- (PostgreSQL 17, 9.21: sum of bigint is numeric; 8.1.2 Arbitrary Precision Numbers)
pub data Outcome : Type 0 where
  Plain : Datum → Outcome
  Numeric : ℤ → Outcome

-- the arguments that are not null: the others count for count(*) alone (PostgreSQL 17, 4.2.7 Aggregate Expressions)
abbrev pub is_null : Datum → Bool
is_null Null = true
is_null value = false

abbrev pub non_null : List Datum → List Datum
non_null values = filter (λ value. not (is_null value)) values

-- the numbers, and the truth values, among the arguments
abbrev pub as_number : Datum → Option ℤ
as_number (Bigint z) = Some z
as_number value = None

abbrev pub as_boolean : Datum → Option Bool
as_boolean (Boolean b) = Some b
as_boolean value = None

abbrev pub numbers : List Datum → List ℤ
numbers values = filter_map as_number values

abbrev pub booleans : List Datum → List Bool
booleans values = filter_map as_boolean values

-- the sum of a list
abbrev pub total : List ℤ → ℤ
total [] = pos 0
total (z ∷ zs) = z +ℤ total zs

-- the least member, absent in an empty list
abbrev pub least : List ℤ → Option ℤ
least zs = find (λ z. list_all (λ y. int_le z y) zs) zs

-- the greatest member, absent in an empty list
abbrev pub greatest : List ℤ → Option ℤ
greatest zs = find (λ z. list_all (λ y. int_le y z) zs) zs

-- whether bit i of a number is set, in two's complement of 64 bits (PostgreSQL 17, 8.1.1)
abbrev pub has_bit : ℕ → ℤ → Bool
has_bit i z = bit_at (cast_unsigned w64 z) i == 1

-- the number below 2 ^ n whose bit i, for each i below n, is set where is_set says so
abbrev pub unsigned_of_bits : (ℕ → Bool) → ℕ → ℕ
unsigned_of_bits is_set zero = 0
unsigned_of_bits is_set (suc n) = cond (is_set n) 1 0 * 2 ^ n + unsigned_of_bits is_set n

-- the number of 64 bits, in two's complement, whose bit i is set where is_set says so
abbrev pub number_of_bits : (ℕ → Bool) → ℤ
number_of_bits is_set = cast_signed w64 (unsigned_of_bits is_set 64)

-- three numbers: a bit is set where all members, where some, and where an odd number of members have it set
abbrev pub bits_of_all : List ℤ → ℤ
bits_of_all zs = number_of_bits (λ i. list_all (has_bit i) zs)

abbrev pub bits_of_some : List ℤ → ℤ
bits_of_some zs = number_of_bits (λ i. list_any (has_bit i) zs)

abbrev pub bits_of_odd : List ℤ → ℤ
bits_of_odd zs = number_of_bits (λ i. count_by (has_bit i) zs % 2 == 1)

-- f of a list, absent where the list is empty: of no argument, count alone answers a value (PostgreSQL 17, 9.21)
abbrev pub of_some : {X Y : Type 0} → (List X → Y) → List X → Option Y
of_some f [] = None
of_some f (x ∷ xs) = Some (f (x ∷ xs))

-- whether a counting function counts an argument: count(*) each row, and count each value that is not null
-- (PostgreSQL 17, 9.21: the number of input rows, and of those in which the input value is not null)
abbrev pub counts : Function → Datum → Bool
counts Count_rows value = true
counts Count value = not (is_null value)
counts other value = false

-- the result of a function of numbers, and that of a function of truth values
abbrev pub number_of : Function → List ℤ → Option ℤ
number_of Min = least
number_of Max = greatest
number_of Bit_and = of_some bits_of_all
number_of Bit_or = of_some bits_of_some
number_of Bit_xor = of_some bits_of_odd
number_of other = λ zs. None

abbrev pub truth_of : Function → List Bool → Option Bool
truth_of Bool_and = of_some (list_all (λ b. b))
truth_of Bool_or = of_some (list_any (λ b. b))
truth_of Every = of_some (list_all (λ b. b))
truth_of other = λ bs. None

-- the partial result of a list of arguments, one for each row that reaches the function. By its form: how many it
-- counts; how many numbers there are, and their sum; what it makes of the numbers, or of the truth values
abbrev pub gathered : Shape → Function → List Datum → Partial
gathered A_count function values = Counted (length (filter (counts function) values))
gathered A_sum function values = Summed (length (numbers values)) (total (numbers values))
gathered A_number function values = Number (number_of function (numbers values))
gathered A_truth function values = Truth_value (truth_of function (booleans values))

abbrev pub partial : Function → List Datum → Partial
partial function values = gathered (shape_of function) function values

-- the result of a partial result: null where there was no argument, except the counts, which are 0 (PostgreSQL 17,
-- 9.21: except for count, these functions return a null value when no rows are selected)
abbrev pub outcome : Partial → Outcome
outcome (Counted n) = Plain (Bigint (pos n))
outcome (Summed zero z) = Plain Null
outcome (Summed (suc n) z) = Numeric z
outcome (Number None) = Plain Null
outcome (Number (Some z)) = Plain (Bigint z)
outcome (Truth_value None) = Plain Null
outcome (Truth_value (Some b)) = Plain (Boolean b)
