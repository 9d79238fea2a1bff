-- Laws of blocks by their numbers.
use Rattle.std.proofs.Common.{◌≡◌, ℕ, zero, suc, ◌*◌, ◌<◌, ◌≤◌, List, [], ◌∷◌, ◌++◌, Option, Some, map, length, set, refl, ap, arith}
use Rattle.chunk_layout.proofs.Words.{unwrap_or, option_map, Every, with_block, total}
use Rattle.std.proofs.Math.Nat.{not-suc-le-zero, le_of_suc-le-suc}

pub with_block-end : {X : Type 0} (xs : List (Option X)) (x : X) → with_block xs (length xs) x ≡ xs ++ Some x ∷ []
with_block-end [] x = refl
with_block-end {X} (y ∷ xs) x = ap (λ (t : List (Option X)). y ∷ t) (with_block-end xs x)

pub with_block-set : {X : Type 0} (xs : List (Option X)) (n : ℕ) (x : X) → n < length xs → set xs n (Some x) ≡ with_block xs n x
with_block-set [] n x low = absurd (not-suc-le-zero low)
with_block-set (y ∷ xs) zero x low = refl
with_block-set {X} (y ∷ xs) (suc n) x low = ap (λ (t : List (Option X)). y ∷ t) (with_block-set xs n x (le_of_suc-le-suc low))

pub map-with_block : {X Y : Type 0} (f : X → Y) (xs : List (Option X)) (n : ℕ) (x : X) → map (option_map f) (with_block xs n x)
    ≡ with_block (map (option_map f) xs) n (f x)
map-with_block f [] n x = refl
map-with_block f (y ∷ xs) zero x = refl
map-with_block {X} {Y} f (y ∷ xs) (suc n) x = ap (λ (t : List (Option Y)). option_map f y ∷ t) (map-with_block f xs n x)

pub length-with_block_low : {X : Type 0} (xs : List (Option X)) (n : ℕ) (x : X) → n < length xs → length (with_block xs n x) ≡ length xs
length-with_block_low [] n x low = absurd (not-suc-le-zero low)
length-with_block_low (y ∷ xs) zero x low = refl
length-with_block_low (y ∷ xs) (suc n) x low = ap suc (length-with_block_low xs n x (le_of_suc-le-suc low))

pub every-with_block : {X : Type 0} (P : Option X → Type 0) (xs : List (Option X)) (n : ℕ) (x : X) → P (Some x) → Every P xs
    → Every P (with_block xs n x)
every-with_block P [] n x p e = (p, tt)
every-with_block P (y ∷ xs) zero x p e = (p, e.1)
every-with_block P (y ∷ xs) (suc n) x p e = (e.0, every-with_block P xs n x p e.1)

pub every-set : {X : Type 0} (P : X → Type 0) (xs : List X) (n : ℕ) (x : X) → P x → Every P xs → Every P (set xs n x)
every-set P [] n x p e = tt
every-set P (y ∷ xs) zero x p e = (p, e.1)
every-set P (y ∷ xs) (suc n) x p e = (e.0, every-set P xs n x p e.1)

pub total-bound : (xs : List (Option ℕ)) → Every (λ o. unwrap_or o 0 ≤ 2147483648) xs → total xs ≤ 2147483648 * length xs
total-bound [] e = omega arith
total-bound (y ∷ xs) e = omega (arith, e.0, total-bound xs e.1)

pub ruleset added_blocks = with_block-set
