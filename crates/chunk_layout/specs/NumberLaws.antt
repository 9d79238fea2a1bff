-- Laws of blocks by their numbers; nothing here is a definition.
use Rattle.std.proofs.Common.{◌≡◌, ◌≢◌, ℕ, zero, suc, ◌+◌, ◌≤◌, List, [], ◌∷◌, Option, Some, None, length, get_or, set, refl, ap}
use Rattle.std.proofs.Common.{suc-le-suc, sym, ◌∙◌, subst}
use Rattle.std.specs.Prelude.{unwrap_or}
use Rattle.std.proofs.Math.Nat.{not-suc-le-zero, le_of_suc-le-suc, le_refl, le-add_right, suc-add, add-zero, zero-add, add_comm, add_assoc}
use Rattle.chunk_layout.specs.Contents.{with_block, total}

pub with_block-here : {X : Type 0} (xs : List (Option X)) (n : ℕ) (x : X) → n ≤ length xs → get_or (with_block xs n x) n None ≡ Some x
with_block-here [] zero x low = refl
with_block-here [] (suc n) x low = absurd (not-suc-le-zero low)
with_block-here (y ∷ xs) zero x low = refl
with_block-here (y ∷ xs) (suc n) x low = with_block-here xs n x (le_of_suc-le-suc low)

pub with_block-other : {X : Type 0} (xs : List (Option X)) (n k : ℕ) (x : X) → n ≤ length xs → k ≢ n → get_or (with_block xs n x) k None
    ≡ get_or xs k None
with_block-other [] zero zero x low ne = absurd (ne refl)
with_block-other [] zero (suc k) x low ne = refl
with_block-other [] (suc n) k x low ne = absurd (not-suc-le-zero low)
with_block-other (y ∷ xs) zero zero x low ne = absurd (ne refl)
with_block-other (y ∷ xs) zero (suc k) x low ne = refl
with_block-other (y ∷ xs) (suc n) zero x low ne = refl
with_block-other (y ∷ xs) (suc n) (suc k) x low ne = with_block-other xs n k x (le_of_suc-le-suc low) (λ e. ne (ap suc e))

pub length-with_block : {X : Type 0} (xs : List (Option X)) (n : ℕ) (x : X) → length (with_block xs n x) ≤ length xs + 1
length-with_block [] n x = le_refl 1
length-with_block (y ∷ xs) zero x = le-add_right (suc (length xs)) 1
length-with_block (y ∷ xs) (suc n) x = subst (λ k. suc (length (with_block xs n x)) ≤ k) (sym (suc-add (length xs) 1))
    (suc-le-suc (length-with_block xs n x))

-- what the blocks are together
pub total-with_block : (xs : List (Option ℕ)) (n x : ℕ) → get_or xs n None ≡ None → total (with_block xs n x) ≡ total xs + x
total-with_block [] n x none = add-zero x ∙ sym (zero-add x)
total-with_block (y ∷ xs) zero x none = add_comm x (total xs)
    ∙ ap (λ k. k + x) (sym (ap (λ (o : Option ℕ). unwrap_or o 0 + total xs) none ∙ zero-add (total xs)))
total-with_block (y ∷ xs) (suc n) x none = ap (λ k. unwrap_or y 0 + k) (total-with_block xs n x none)
    ∙ sym (add_assoc (unwrap_or y 0) (total xs) x)

pub total-set_none : (xs : List (Option ℕ)) (n : ℕ) → total (set xs n None) + unwrap_or (get_or xs n None) 0 ≡ total xs
total-set_none [] n = refl
total-set_none (y ∷ xs) zero = ap (λ k. k + unwrap_or y 0) (zero-add (total xs)) ∙ add_comm (total xs) (unwrap_or y 0)
total-set_none (y ∷ xs) (suc n) =
    add_assoc (unwrap_or y 0) (total (set xs n None)) (unwrap_or (get_or xs n None) 0)
    ∙ ap (λ k. unwrap_or y 0 + k) (total-set_none xs n)
