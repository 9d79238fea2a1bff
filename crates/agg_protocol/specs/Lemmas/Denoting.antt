-- What it means that bytes denote a partial result.
use Rattle.std.proofs.Common.{◌≡◌, refl, ℕ, ◌+◌, ◌≤◌, ◌<◌, ◌^◌, List, ◌∷◌, drop, slice_index, sym, ap, subst, ◌∙◌, arith, Some, None, true}
use Rattle.std.proofs.Common.{false, ℤ, FitsSigned}
use Rattle.std.proofs.lemmas.Int.{to_z-of_z}
use mir.ValLaws.{of_z_fits}
use Rattle.std.specs.Int.{w64, w128, cast_unsigned, cast_signed, bytes_high_first}
use Rattle.byteorder.specs.Endian.{big_from}
use Rattle.grouping_model.specs.Aggregates.{Function, Partial, Counted, Summed, Number, Truth_value, shape_is}
use Rattle.grouping_model.specs.Combining.{combine}
use Rattle.agg_protocol.specs.States.{Shape, rows_of, most_rows, bytes_of, Denotes, IsState, IsTotal}
use Rattle.agg_protocol.specs.ByteLaws.{reads}
use Rattle.agg_protocol.specs.DenotingLaws.{shape_known, own_state}
use Rattle.agg_protocol.specs.Lemmas.Bytes.{reads_all, total_fits}

-- rows add up
pub rows_add : (f : Function) (p q : Partial) → shape_is p ≡ shape_is q → rows_of (combine f p q) ≡ rows_of p + rows_of q
rows_add f (Counted n) (Counted k) e = refl
rows_add f (Summed n z) (Summed k y) e = refl
rows_add f (Number o) (Number u) e = omega arith
rows_add f (Truth_value o) (Truth_value u) e = omega arith
rows_add f p q e = cc

at_most : (n m : ℕ) → n ≤ m → m ≤ most_rows → n ≤ most_rows
at_most n m l small = omega arith

below : (n m : ℕ) → n ≤ m → m ≤ most_rows → n < 256 ^ 8
below n m l small = omega arith

total_is : (n : ℕ) (z : ℤ) → n ≤ most_rows → IsTotal n z → {back : List ℕ} → back ≡ bytes_high_first 16 (cast_unsigned w128 z)
    → cast_signed w128 (big_from 0 16 back) ≡ z
total_is n z few t {back} e =
    let fits = total_fits n z few t in
    ap (cast_signed w128) (reads_all 16 (cast_unsigned w128 z) back (of_z_fits w128 z fits).fits e) ∙ to_z-of_z w128 z fits

number_is : (z : ℤ) → FitsSigned w64 z → {back : List ℕ} → back ≡ bytes_high_first 8 (cast_unsigned w64 z)
    → cast_signed w64 (big_from 0 8 back) ≡ z
number_is z fits {back} e = ap (cast_signed w64) (reads_all 8 (cast_unsigned w64 z) back (of_z_fits w64 z fits).fits e)
    ∙ to_z-of_z w64 z fits

-- bytes denote one partial result at most
pub once : (m : ℕ) (s : Shape) (bytes : List ℕ) (p q : Partial) → m ≤ most_rows → Denotes m s bytes p → Denotes m s bytes q → p ≡ q
once m s bytes p q small d e = own p q (shape_known m s p d.0 ∙ sym (shape_known m s q e.0)) (own_state m s p d.0) (own_state m s q e.0) d.1
    e.1
  where
    -- the first bytes of states that differ
    apart : (a b : ℕ) (more others : List ℕ) → bytes ≡ a ∷ more → bytes ≡ b ∷ others → a ≡ b
    apart a b more others d e = ap (λ l. slice_index l 0) (sym d ∙ e)

    own : (p q : Partial) → shape_is p ≡ shape_is q → IsState m (shape_is p) p → IsState m (shape_is q) q → bytes ≡ bytes_of p → bytes
        ≡ bytes_of q → p ≡ q
    own (Counted n) (Counted k) same few low d e = ap Counted (sym (reads_all 8 n bytes (below n m few small) d)
        ∙ reads_all 8 k bytes (below k m low small) e)
    own (Summed n z) (Summed k y) same few low d e =
        λ j. Summed
        ((sym (reads 8 n bytes (bytes_high_first 16 (cast_unsigned w128 z)) (below n m few.0 small) d)
        ∙ reads 8 k bytes (bytes_high_first 16 (cast_unsigned w128 y)) (below k m low.0 small) e) j)
        ((sym (total_is n z (at_most n m few.0 small) few.1 (ap (drop 8) d)) ∙ total_is k y (at_most k m low.0 small) low.1 (ap (drop 8) e))
        j)
    own (Number None) (Number None) same few low d e = refl
    own (Number None) (Number (Some y)) same few low d e = let clash = apart 0 1 _ _ d e in absurd (omega arith)
    own (Number (Some z)) (Number None) same few low d e = let clash = apart 1 0 _ _ d e in absurd (omega arith)
    own (Number (Some z)) (Number (Some y)) same few low d e = ap (λ x. Number (Some x)) (sym (number_is z few (ap (drop 1) d))
        ∙ number_is y low (ap (drop 1) e))
    own (Truth_value None) (Truth_value None) same few low d e = refl
    own (Truth_value None) (Truth_value (Some false)) same few low d e = let clash = apart 0 1 _ _ d e in absurd (omega arith)
    own (Truth_value None) (Truth_value (Some true)) same few low d e = let clash = apart 0 2 _ _ d e in absurd (omega arith)
    own (Truth_value (Some false)) (Truth_value None) same few low d e = let clash = apart 1 0 _ _ d e in absurd (omega arith)
    own (Truth_value (Some false)) (Truth_value (Some false)) same few low d e = refl
    own (Truth_value (Some false)) (Truth_value (Some true)) same few low d e = let clash = apart 1 2 _ _ d e in absurd (omega arith)
    own (Truth_value (Some true)) (Truth_value None) same few low d e = let clash = apart 2 0 _ _ d e in absurd (omega arith)
    own (Truth_value (Some true)) (Truth_value (Some false)) same few low d e = let clash = apart 2 1 _ _ d e in absurd (omega arith)
    own (Truth_value (Some true)) (Truth_value (Some true)) same few low d e = refl
    own p q same few low d e = cc

-- too many rows of the two that are denoted are too many of any
pub too_many : (f : Function) (m : ℕ) (s : Shape) (a b : List ℕ) (x y : Partial) → m ≤ most_rows → Denotes m s a x → Denotes m s b y
    → m < rows_of (combine f x y) → (p q : Partial) → Denotes m s a p → Denotes m s b q → m < rows_of (combine f p q)
too_many f m s a b x y small dx dy many p q dp dq =
    subst (λ r. m < rows_of (combine f p r)) (once m s b y q small dy dq)
    (subst (λ r. m < rows_of (combine f r y)) (once m s a x p small dx dp) many)
