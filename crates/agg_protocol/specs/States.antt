-- The states of the aggregate functions: which partial results they denote, and the bytes of each
-- (PostgreSQL 17, CREATE AGGREGATE: stype and serialfunc; which bytes those are is our own).
use Rattle.std.specs.Prelude.{◌≡◌, refl, ℕ, ◌-◌, ◌*◌, ◌^◌, ◌≤◌, true, false, List, [], ◌∷◌, ◌++◌, ℤ, pos, neg_ℤ, ◌≤ℤ◌, FitsSigned, Some}
use Rattle.std.specs.Prelude.{None}
use Rattle.std.proofs.Common.{leb-true}
use Rattle.std.specs.Int.{w64, w128, cast_unsigned, bytes_high_first}
use Rattle.grouping_model.specs.Aggregates.{Partial, Counted, Summed, Number, Truth_value}
pub use Rattle.grouping_model.specs.Aggregates.{Shape, A_count, A_sum, A_number, A_truth, shape_of}

-- how many bytes a state has (own)
abbrev pub width_of : Shape → ℕ
width_of A_count = 8
width_of A_sum = 24
width_of A_number = 9
width_of A_truth = 1

-- no state has more bytes than a sum's
pub widest_is_sum : (shape : Shape) → width_of shape ≤ width_of A_sum
widest_is_sum A_count = leb-true (width_of A_count) (width_of A_sum) refl
widest_is_sum shape = leb-true (width_of shape) (width_of A_sum) refl

-- the most rows that a state can count (own)
abbrev pub most_rows : ℕ
most_rows = 2 ^ 62 - 1

-- how many rows a partial result counts: those that reached a count, those that a sum added, else none (own)
abbrev pub rows_of : Partial → ℕ
rows_of (Counted n) = n
rows_of (Summed n z) = n
rows_of other = 0

-- a total of n numbers of 64 bits (PostgreSQL 17, 8.1.1 Integer Types, for the range of each)
abbrev pub IsTotal : ℕ → ℤ → Type 0
IsTotal n z = (neg_ℤ (pos (n * 2 ^ 63)) ≤ℤ z) × (z ≤ℤ pos (n * (2 ^ 63 - 1)))

-- a partial result of this shape that counts at most this many rows (own)
abbrev pub IsState : ℕ → Shape → Partial → Type 0
IsState most A_count (Counted n) = n ≤ most
IsState most A_sum (Summed n z) = (n ≤ most) × IsTotal n z
IsState most A_number (Number None) = Unit {0}
IsState most A_number (Number (Some z)) = FitsSigned w64 z
IsState most A_truth (Truth_value b) = Unit {0}
IsState most shape other = ⊥

-- the bytes of a partial result, the highest byte of a number first, signed numbers in two's complement (own)
abbrev pub bytes_of : Partial → List ℕ
bytes_of (Counted n) = bytes_high_first 8 n
bytes_of (Summed n z) = bytes_high_first 8 n ++ bytes_high_first 16 (cast_unsigned w128 z)
bytes_of (Number None) = 0 ∷ bytes_high_first 8 0
bytes_of (Number (Some z)) = 1 ∷ bytes_high_first 8 (cast_unsigned w64 z)
bytes_of (Truth_value None) = 0 ∷ []
bytes_of (Truth_value (Some false)) = 1 ∷ []
bytes_of (Truth_value (Some true)) = 2 ∷ []

-- the bytes denote a partial result of this shape that counts at most this many rows (own)
abbrev pub Denotes : ℕ → Shape → List ℕ → Partial → Type 0
Denotes most shape bytes p = IsState most shape p × (bytes ≡ bytes_of p)
