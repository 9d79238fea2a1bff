-- The number in some bytes, highest first, spells these bytes; and what bytes that denote a state look like.
use Rattle.std.proofs.Common.{◌≡◌, refl, ℕ, zero, suc, ◌+◌, ◌-◌, ◌*◌, ◌^◌, ◌<◌, ◌≤◌, ◌/◌, List, [], ◌∷◌, ◌++◌, length, take, drop}
use Rattle.std.proofs.Common.{slice_index, slice_set, sym, ap, subst, ◌∙◌, arith, mod-lt, append-nil, Some, ℤ, pos, negsuc, FitsSigned}
use Rattle.std.proofs.lemmas.List.{length-drop, length-take, take-append-drop, take_all, drop_all}
use Rattle.std.proofs.lemmas.Nat.{div-mul-add}
use Rattle.std.proofs.lemmas.Int.{ints, to_z-of_z, of_z-to_z}
use Rattle.std.proofs.Math.Facts.{sfits_to_z}
use mir.ValLaws.{of_z_fits}
use borrow.Rule.Slice.PartMut.{put_mid, post_of}
use Rattle.std.specs.Int.{w64, w128, cast_unsigned, cast_signed, byte_at, bytes_high_first}
use Rattle.byteorder.specs.Endian.{big_from}
use Rattle.byteorder.specs.Numbers.{big_from-cons, big_from-take, big_from-lt, length-bytes_high_first}
use Rattle.grouping_model.specs.Aggregates.{Partial, Counted, Summed, Number, Truth_value}
use Rattle.agg_protocol.specs.States.{Denotes, IsTotal, A_sum, A_number, bytes_of, most_rows}
use Rattle.agg_protocol.specs.ByteLaws.{reads}

-- two lists of bytes of one length with one number are equal
pub same_bytes : (n : ℕ) (xs ys : List ℕ) → ((i : ℕ) → slice_index xs i < 256) → ((i : ℕ) → slice_index ys i < 256) → length xs ≡ n
    → length ys ≡ n → big_from 0 n xs ≡ big_from 0 n ys → xs ≡ ys
same_bytes zero [] [] fits_x fits_y lx ly e = refl
same_bytes zero (x ∷ xs) ys fits_x fits_y lx ly e = absurd (omega arith)
same_bytes zero [] (y ∷ ys) fits_x fits_y lx ly e = absurd (omega arith)
same_bytes (suc n) [] ys fits_x fits_y lx ly e = absurd (omega arith)
same_bytes (suc n) (x ∷ xs) [] fits_x fits_y lx ly e = absurd (omega arith)
same_bytes (suc n) (x ∷ xs) (y ∷ ys) fits_x fits_y lx ly e =
    let below_x : big_from 0 n xs < 256 ^ n = big_from-lt 0 n xs (λ i. fits_x (suc i)) in
    let below_y : big_from 0 n ys < 256 ^ n = big_from-lt 0 n ys (λ i. fits_y (suc i)) in
    let sums : x * 256 ^ n + big_from 0 n xs ≡ y * 256 ^ n + big_from 0 n ys =
    ap (λ r. x * 256 ^ n + r) (sym (big_from-cons 0 n x xs)) ∙ e ∙ ap (λ r. y * 256 ^ n + r) (big_from-cons 0 n y ys) in
    let first : x ≡ y =
    sym (div-mul-add x (256 ^ n) (big_from 0 n xs) below_x) ∙ ap (λ s. s / 256 ^ n) sums
    ∙ div-mul-add y (256 ^ n) (big_from 0 n ys) below_y in
    let moved : y * 256 ^ n + big_from 0 n xs ≡ y * 256 ^ n + big_from 0 n ys = ap (λ z. z * 256 ^ n + big_from 0 n xs) (sym first)
    ∙ sums in
    let rest : big_from 0 n xs ≡ big_from 0 n ys = omega arith in
    let others : xs ≡ ys = same_bytes n xs ys (λ i. fits_x (suc i)) (λ i. fits_y (suc i)) (omega arith) (omega arith) rest in
    λ j. first j ∷ others j

-- a byte of a number is below 256
byte_below : (k x : ℕ) → byte_at k x < 256
byte_below zero x = mod-lt x (omega arith)
byte_below (suc k) x = mod-lt (x / 256 ^ suc k) (omega arith)

bytes_below : (n x i : ℕ) → slice_index (bytes_high_first n x) i < 256
bytes_below zero x i = omega arith
bytes_below (suc n) x zero = byte_below n x
bytes_below (suc n) x (suc i) = bytes_below n x i

-- the bytes of a part
drop_below : (k : ℕ) (bytes : List ℕ) → ((i : ℕ) → slice_index bytes i < 256) → (i : ℕ) → slice_index (drop k bytes) i < 256
drop_below zero bytes fits i = fits i
drop_below (suc k) [] fits i = fits i
drop_below (suc k) (b ∷ bytes) fits i = drop_below k bytes (λ j. fits (suc j)) i

take_below : (k : ℕ) (bytes : List ℕ) → ((i : ℕ) → slice_index bytes i < 256) → (i : ℕ) → slice_index (take k bytes) i < 256
take_below zero bytes fits i = omega arith
take_below (suc k) [] fits i = omega arith
take_below (suc k) (b ∷ bytes) fits zero = fits zero
take_below (suc k) (b ∷ bytes) fits (suc i) = take_below k bytes (λ j. fits (suc j)) i

-- a slice to the end is all that is left
pub sliced : (k : ℕ) (bytes : List ℕ) → take (length bytes - k) (drop k bytes) ≡ drop k bytes
sliced k bytes = take_all (length bytes - k) (drop k bytes) (omega (arith, length-drop k bytes))

pub reads_all : (n x : ℕ) (bytes : List ℕ) → x < 256 ^ n → bytes ≡ bytes_high_first n x → big_from 0 n bytes ≡ x
reads_all n x bytes h e = reads n x bytes [] h (e ∙ sym (append-nil (bytes_high_first n x)))

-- bytes spell the number in them
pub own_bytes : (n : ℕ) (xs : List ℕ) → ((i : ℕ) → slice_index xs i < 256) → length xs ≡ n → xs ≡ bytes_high_first n (big_from 0 n xs)
own_bytes n xs fits l =
    same_bytes n xs (bytes_high_first n (big_from 0 n xs)) fits (bytes_below n (big_from 0 n xs)) l
    (length-bytes_high_first n (big_from 0 n xs))
    (sym (reads_all n (big_from 0 n xs) (bytes_high_first n (big_from 0 n xs)) (big_from-lt 0 n xs fits) refl))

-- ---- totals
pub total_fits : (n : ℕ) (z : ℤ) → n ≤ most_rows → IsTotal n z → FitsSigned w128 z
total_fits n (pos k) few t = let high = t.1 in record { sfits = omega (arith, ints) }
total_fits n (negsuc k) few t = let low = t.0 in record { sfits = omega (arith, ints) }

pub total_read : (m : ℕ) (bytes : List ℕ) (p : Partial) → m ≤ most_rows → Denotes m A_sum bytes p → (length bytes ≡ 24)
    × (big_from 0 8 bytes ≤ m) × IsTotal (big_from 0 8 bytes) (cast_signed w128 (big_from 0 16 (drop 8 bytes)))
total_read m bytes (Counted n) small d = absurd d.0
total_read m bytes (Summed n z) small d =
    let few : n ≤ m = d.0.0 in
    let fits : FitsSigned w128 z = total_fits n z (omega arith) d.0.1 in
    let count : big_from 0 8 bytes ≡ n = reads 8 n bytes (bytes_high_first 16 (cast_unsigned w128 z)) (omega arith) d.1 in
    let wide : big_from 0 16 (drop 8 bytes) ≡ cast_unsigned w128 z = reads_all 16 (cast_unsigned w128 z) (drop 8 bytes)
    (of_z_fits w128 z fits).fits (ap (drop 8) d.1) in
    let number : cast_signed w128 (big_from 0 16 (drop 8 bytes)) ≡ z = ap (cast_signed w128) wide ∙ to_z-of_z w128 z fits in (
      ap length d.1,
      subst (λ k. k ≤ m) (sym count) few,
      subst (λ k. IsTotal k (cast_signed w128 (big_from 0 16 (drop 8 bytes)))) (sym count) (subst (λ y. IsTotal n y) (sym number) d.0.1),
    )
total_read m bytes (Number o) small d = absurd d.0
total_read m bytes (Truth_value o) small d = absurd d.0

-- a total as it is read from its slice
pub total_value : (bytes : List ℕ) (z : ℤ) → ((i : ℕ) → slice_index bytes i < 256) → z
    ≡ cast_signed w128 (big_from 0 16 (take (length bytes - 8) (drop 8 bytes))) → cast_signed w128 (cast_unsigned w128 z)
    ≡ cast_signed w128 (big_from 0 16 (drop 8 bytes))
total_value bytes z fits e =
    ap (λ y. cast_signed w128 (cast_unsigned w128 y)) (e ∙ ap (λ b. cast_signed w128 (big_from 0 16 b)) (sliced 8 bytes))
    ∙ ap (cast_signed w128) (of_z-to_z w128 (big_from 0 16 (drop 8 bytes)) (big_from-lt 0 16 (drop 8 bytes) (drop_below 8 bytes fits)))

pub total_made : (bytes : List ℕ) (n m : ℕ) (z : ℤ) → ((i : ℕ) → slice_index bytes i < 256) → length bytes ≡ 24 → n ≡ big_from 0 8 bytes → m
    ≡ big_from 0 16 (drop 8 bytes) → z ≡ cast_signed w128 m → n ≤ most_rows → IsTotal n z
    → Denotes most_rows A_sum bytes (Summed n z)
total_made bytes n m z fits l count number total few bounds =
    let below = drop_below 8 bytes fits in
    let front : take 8 bytes ≡ bytes_high_first 8 n =
    own_bytes 8 (take 8 bytes) (take_below 8 bytes fits) (omega (arith, length-take 8 bytes))
    ∙ ap (bytes_high_first 8) (big_from-take 0 8 8 bytes (omega arith) ∙ sym count) in
    let wide : m < 2 ^ 128 = subst (λ k. k < 2 ^ 128) (sym number) (big_from-lt 0 16 (drop 8 bytes) below) in
    let same : big_from 0 16 (drop 8 bytes) ≡ cast_unsigned w128 z = sym number ∙ sym (of_z-to_z w128 m wide)
    ∙ ap (cast_unsigned w128) (sym total) in
    let back : drop 8 bytes ≡ bytes_high_first 16 (cast_unsigned w128 z) =
    own_bytes 16 (drop 8 bytes) below (omega (arith, length-drop 8 bytes)) ∙ ap (bytes_high_first 16) same in
    ((few, bounds), sym (take-append-drop 8 bytes) ∙ (λ j. front j ++ back j))

-- ---- numbers that may be absent
-- the first byte, and the others
parted : (bytes : List ℕ) → 1 ≤ length bytes → bytes ≡ slice_index bytes 0 ∷ drop 1 bytes
parted [] l = absurd (omega arith)
parted (b ∷ bytes) l = refl

pub number_made : (m : ℕ) (bytes : List ℕ) (n : ℕ) (z : ℤ) → ((i : ℕ) → slice_index bytes i < 256) → length bytes ≡ 9 → slice_index bytes 0
    ≡ 1 → n ≡ big_from 0 8 (drop 1 bytes) → z ≡ cast_signed w64 n → Denotes m A_number bytes (Number (Some z))
number_made m bytes n z fits l one number value =
    let below = drop_below 1 bytes fits in
    let wide : n < 2 ^ 64 = subst (λ k. k < 2 ^ 64) (sym number) (big_from-lt 0 8 (drop 1 bytes) below) in
    let same : big_from 0 8 (drop 1 bytes) ≡ cast_unsigned w64 z = sym number ∙ sym (of_z-to_z w64 n wide)
    ∙ ap (cast_unsigned w64) (sym value) in
    let back : drop 1 bytes ≡ bytes_high_first 8 (cast_unsigned w64 z) =
    own_bytes 8 (drop 1 bytes) below (omega (arith, length-drop 1 bytes)) ∙ ap (bytes_high_first 8) same in (
      subst (λ y. FitsSigned w64 y) (sym value) (sfits_to_z {w = w64} (record { fits = wide })),
      parted bytes (omega arith)
          ∙ (λ j. one j ∷ back j),
    )

-- the bytes of a number that is there, as they are written
pub number_written : (bytes back : List ℕ) (z : ℤ) → length bytes ≡ 9 → back ≡ bytes_high_first 8 (cast_unsigned w64 z)
    ++ drop 8 (take (length (slice_set bytes 0 1) - 1) (drop 1 (slice_set bytes 0 1)))
    → put_mid 1 (length (slice_set bytes 0 1) - 1) (slice_set bytes 0 1) back ≡ bytes_of (Number (Some z))
number_written [] back z l e = absurd (omega arith)
number_written (b ∷ bytes) back z l e =
    let none : drop 8 (take (suc (length bytes) - 1) bytes)
    ≡ [] = drop_all 8 (take (suc (length bytes) - 1) bytes) (omega (arith, length-take (suc (length bytes) - 1) bytes)) in
    let last : post_of 1 (suc (length bytes) - 1) (1 ∷ bytes) ≡ [] = drop_all (suc (length bytes) - 1) bytes (omega arith) in
    let body : back ≡ bytes_high_first 8 (cast_unsigned w64 z) = e ∙ ap (λ t. bytes_high_first 8 (cast_unsigned w64 z) ++ t) none
    ∙ append-nil (bytes_high_first 8 (cast_unsigned w64 z)) in
    ap (λ t. 1 ∷ (back ++ t)) last ∙ ap (λ t. 1 ∷ t) (append-nil back ∙ body)
