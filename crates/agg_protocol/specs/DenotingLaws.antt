-- Laws: what it means that bytes denote a partial result; nothing here is a definition.
use Rattle.std.proofs.Common.{◌≡◌, refl, ℕ, ◌≤◌, List, length, sym, ap, subst, ◌∙◌, zero-le, Some, None, true, false}
use Rattle.grouping_model.specs.Aggregates.{Partial, Counted, Summed, Number, Truth_value, shape_is}
use Rattle.agg_protocol.specs.States.{Shape, width_of, rows_of, bytes_of, Denotes, IsState, A_count, A_sum, A_number, A_truth}

-- a state of a shape has it
pub shape_known : (m : ℕ) (s : Shape) (p : Partial) → IsState m s p → shape_is p ≡ s
shape_known m A_count (Counted n) k = refl
shape_known m A_count (Summed n z) k = absurd k
shape_known m A_count (Number o) k = absurd k
shape_known m A_count (Truth_value o) k = absurd k
shape_known m A_sum (Counted n) k = absurd k
shape_known m A_sum (Summed n z) k = refl
shape_known m A_sum (Number o) k = absurd k
shape_known m A_sum (Truth_value o) k = absurd k
shape_known m A_number (Counted n) k = absurd k
shape_known m A_number (Summed n z) k = absurd k
shape_known m A_number (Number o) k = refl
shape_known m A_number (Truth_value o) k = absurd k
shape_known m A_truth (Counted n) k = absurd k
shape_known m A_truth (Summed n z) k = absurd k
shape_known m A_truth (Number o) k = absurd k
shape_known m A_truth (Truth_value o) k = refl

-- so it is a state of its own shape
pub own_state : (m : ℕ) (s : Shape) (p : Partial) → IsState m s p → IsState m (shape_is p) p
own_state m s p k = subst (λ t. IsState m t p) (sym (shape_known m s p k)) k

-- how long the bytes are
pub width_known : (m : ℕ) (s : Shape) (bytes : List ℕ) (p : Partial) → Denotes m s bytes p → length bytes ≡ width_of s
width_known m s bytes p d = ap length d.1 ∙ spelled p ∙ ap width_of (shape_known m s p d.0)
  where
    spelled : (p : Partial) → length (bytes_of p) ≡ width_of (shape_is p)
    spelled (Counted n) = refl
    spelled (Summed n z) = refl
    spelled (Number None) = refl
    spelled (Number (Some z)) = refl
    spelled (Truth_value None) = refl
    spelled (Truth_value (Some true)) = refl
    spelled (Truth_value (Some false)) = refl

-- the same state with another bound on its rows
pub within : (m most : ℕ) (s : Shape) (p : Partial) → IsState m s p → rows_of p ≤ most → IsState most s p
within m most s p k few = subst (λ t. IsState most t p) (shape_known m s p k) (own p (own_state m s p k) few)
  where
    own : (p : Partial) → IsState m (shape_is p) p → rows_of p ≤ most → IsState most (shape_is p) p
    own (Counted n) k few = few
    own (Summed n z) k few = (few, k.1)
    own (Number None) k few = k
    own (Number (Some z)) k few = k
    own (Truth_value o) k few = k

-- a state counts no more rows than its bound
pub state_rows : (most : ℕ) (s : Shape) (p : Partial) → IsState most s p → rows_of p ≤ most
state_rows most s p k = own p (own_state most s p k)
  where
    own : (p : Partial) → IsState most (shape_is p) p → rows_of p ≤ most
    own (Counted n) k = k
    own (Summed n z) k = k.0
    own (Number o) k = zero-le
    own (Truth_value o) k = zero-le
