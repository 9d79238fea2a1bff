-- Laws: places in lists, and keys in order; nothing here is a definition.
use Rattle.std.specs.Prelude.{◌≡◌, refl, ℕ, zero, suc, ◌+◌, ◌*◌, ◌^◌, ◌<◌, ◌≤◌, List, [], ◌∷◌, ◌++◌, length, take, drop, Some, slice_get}
use Rattle.std.specs.Prelude.{slice_index}
use Rattle.std.proofs.Common.{sym, ◌∙◌, ap, subst, add-one, arith, inl, inr}
use Rattle.std.proofs.Math.Nat.{mul-le-mul_right, suc-ne-zero, zero-mul}
use Rattle.std.proofs.lemmas.Bool.{cases_lt}
use Rattle.std.proofs.lemmas.Option.{none-some, same_Some}
use Rattle.std.specs.declared.cmp.Ordering.TheVariants.{Less}
use Rattle.std.specs.Ordering.{nat_cmp, ordering_then}
use Rattle.std.specs.Cmp.{IsTotalOrder}
use Rattle.std.specs.Cmp.Lexicographic.{slice_cmp, on_texts}
use Rattle.std.specs.List.{AllByRecursion}
use Rattle.byteorder.specs.Endian.{big_from}
use Rattle.byteorder.specs.Numbers.{big_from-cons, big_from-lt}
use Rattle.packed_rows.specs.PackingOrderLaws.{less, tied}

-- ---- places in lists

-- a list from a place on, with the member there
pub drop_at : {X : Type 0} (xs : List X) (n : ℕ) (x : X) → slice_get xs n ≡ Some x → drop n xs ≡ x ∷ drop (n + 1) xs
drop_at [] n x e = absurd (none-some x e)
drop_at (y ∷ xs) zero x e = ap (λ y. y ∷ xs) (same_Some y x e)
drop_at (y ∷ xs) (suc n) x e = drop_at xs n x e ∙ ap (λ k. x ∷ drop k xs) (add-one n)
    ∙ ap (λ k. x ∷ drop k (y ∷ xs)) (sym (add-one (suc n)))

-- the member there, and what is after it
pub dropped : {X : Type 0} (xs : List X) (n : ℕ) (y : X) (ys : List X) → drop n xs ≡ y ∷ ys → (slice_get xs n ≡ Some y)
    × (drop (n + 1) xs ≡ ys)
dropped [] zero y ys e = absurd (suc-ne-zero (length ys) (sym (ap length e)))
dropped [] (suc n) y ys e = absurd (suc-ne-zero (length ys) (sym (ap length e)))
dropped (x ∷ xs) zero y ys e = (ap (λ zs. slice_get zs 0) e, ap (drop 1) e)
dropped (x ∷ xs) (suc n) y ys e =
    let more = dropped xs n y ys e in
    (more.0, ap (λ k. drop k (x ∷ xs)) (add-one (suc n)) ∙ ap (λ k. drop k xs) (sym (add-one n)) ∙ more.1)

-- a list up to a place, with the member there
pub take_found : {X : Type 0} (xs : List X) (i : ℕ) (x : X) → slice_get xs i ≡ Some x → take (i + 1) xs ≡ take i xs ++ x ∷ []
take_found [] i x e = absurd (none-some x e)
take_found (y ∷ xs) zero x e = ap (λ y. y ∷ []) (same_Some y x e)
take_found (y ∷ xs) (suc i) x e = ap (λ k. take k (y ∷ xs)) (add-one (suc i)) ∙ ap (λ k. y ∷ take k xs) (sym (add-one i))
    ∙ ap (λ zs. y ∷ zs) (take_found xs i x e)

-- what holds of each member holds of that at a place
pub all_at : {X : Type 0} (P : X → Type 0) (xs : List X) (i : ℕ) (x : X) → AllByRecursion P xs → slice_get xs i ≡ Some x → P x
all_at P [] i x all e = absurd (none-some x e)
all_at P (y ∷ xs) zero x (p, all) e = subst P (same_Some y x e) p
all_at P (y ∷ xs) (suc i) x (p, all) e = all_at P xs i x all e

-- ---- keys in order

-- packed keys are in a total order
pub key_total : IsTotalOrder (slice_cmp nat_cmp)
key_total = on_texts (λ (key : List ℕ). key)

-- a number of no bytes
no_bytes : (i n : ℕ) → big_from i n [] ≡ 0
no_bytes i zero = refl
no_bytes i (suc n) = let rest = no_bytes (suc i) n in let none = zero-mul (256 ^ n) in omega (arith, rest, none)

-- a key whose first bytes are a smaller number comes first
pub smaller_first : (n : ℕ) (xs ys : List ℕ) → ((i : ℕ) → slice_index xs i < 256) → ((i : ℕ) → slice_index ys i < 256)
    → big_from 0 n xs < big_from 0 n ys → slice_cmp nat_cmp xs ys ≡ Less
smaller_first zero xs ys fits_x fits_y low = absurd (omega (arith, low))
smaller_first (suc n) [] [] fits_x fits_y low = absurd (omega (arith, low))
smaller_first (suc n) [] (y ∷ ys) fits_x fits_y low = refl
smaller_first (suc n) (x ∷ xs) [] fits_x fits_y low = let none : big_from 0 (suc n) []
    ≡ 0 = no_bytes 0 (suc n) in absurd (omega (arith, none, low))
smaller_first (suc n) (x ∷ xs) (y ∷ ys) fits_x fits_y low =
    let below_x : big_from 0 n xs < 256 ^ n = big_from-lt 0 n xs (λ i. fits_x (suc i)) in
    let below_y : big_from 0 n ys < 256 ^ n = big_from-lt 0 n ys (λ i. fits_y (suc i)) in
    let sums : x * 256 ^ n + big_from 0 n xs < y * 256 ^ n + big_from 0 n ys =
    subst (λ r. x * 256 ^ n + r < y * 256 ^ n + big_from 0 n ys) (big_from-cons 0 n x xs)
    (subst (λ r. x * 256 ^ n + big_from 1 n (x ∷ xs) < y * 256 ^ n + r) (big_from-cons 0 n y ys) low) in
    elim (cases_lt x y) [
      | inl lt ↦ ap (λ o. ordering_then o (slice_cmp nat_cmp xs ys)) (less x y lt)
      | inr le ↦ elim (cases_lt y x) [
        | inl gt ↦ let far : suc y * 256 ^ n ≤ x
            * 256 ^ n = mul-le-mul_right (256 ^ n) gt in absurd (omega (arith, far, sums, below_x, below_y))
        | inr ge ↦
            let same : x ≡ y = omega (arith, le, ge) in
            let rest : big_from 0 n xs < big_from 0 n ys = let moved : x * 256 ^ n ≡ y
            * 256 ^ n = ap (λ z. z * 256 ^ n) same in omega (arith, moved, sums) in
            ap (λ z. ordering_then (nat_cmp x z) (slice_cmp nat_cmp xs ys)) (sym same)
            ∙ ap (λ o. ordering_then o (slice_cmp nat_cmp xs ys)) (tied x)
            ∙ smaller_first n xs ys (λ i. fits_x (suc i)) (λ i. fits_y (suc i)) rest
      ]
    ]
