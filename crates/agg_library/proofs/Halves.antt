-- A number of 128 bits is two of 64.
use Rattle.std.proofs.Common.{◌≡◌, ℕ, zero, ◌+◌, ◌*◌, ◌^◌, ◌<◌, ◌/◌, ◌%◌, [], ◌∷◌, ◌++◌, ap, sym, ◌∙◌, arith}
use Rattle.std.specs.Int.{bytes_high_first}
use Rattle.std.proofs.Math.Nat.{div-div-eq-div-mul, mul_assoc, mod-add-div', add-mul-div_right, add-mul-mod_self_right}

-- the bytes of the higher half
high : (x d : ℕ) → x / 2 ^ 64 / d % 256 ≡ x / (2 ^ 64 * d) % 256
high x d = ap (λ n. n % 256) (div-div-eq-div-mul x (2 ^ 64) d)

-- those of the lower one
low : (x m d : ℕ) → zero < d → x % (m * 256 * d) / d % 256 ≡ x / d % 256
low x m d some =
    let w = m * 256 * d in
    let q = x / w in
    let parts : q * w ≡ q * m * 256 * d = sym (mul_assoc q (m * 256) d) ∙ ap (λ n. n * d) (sym (mul_assoc q m 256)) in
    let whole : x % w + q * m * 256 * d ≡ x = ap (λ n. x % w + n) (sym parts) ∙ mod-add-div' x w in
    let divided : x / d ≡ x % w / d + q * m * 256 = ap (λ n. n / d) (sym whole) ∙ add-mul-div_right (x % w) (q * m * 256) some in
    sym (ap (λ n. n % 256) divided ∙ add-mul-mod_self_right (x % w / d) (q * m) 256)

lowest : (x : ℕ) → x % 2 ^ 64 % 256 ≡ x % 256
lowest x = omega arith

pub halves : (x : ℕ) → bytes_high_first 8 (x / 2 ^ 64) ++ bytes_high_first 8 (x % 2 ^ 64) ≡ bytes_high_first 16 x
halves x = λ i.
    high x (256 ^ 7) i ∷ high x (256 ^ 6) i ∷ high x (256 ^ 5) i ∷ high x (256 ^ 4) i ∷ high x (256 ^ 3) i ∷ high x (256 ^ 2) i
    ∷ high x (256 ^ 1) i ∷ (x / 2 ^ 64 % 256) ∷ low x 1 (256 ^ 7) (omega arith) i ∷ low x (256 ^ 1) (256 ^ 6) (omega arith) i
    ∷ low x (256 ^ 2) (256 ^ 5) (omega arith) i ∷ low x (256 ^ 3) (256 ^ 4) (omega arith) i
    ∷ low x (256 ^ 4) (256 ^ 3) (omega arith) i ∷ low x (256 ^ 5) (256 ^ 2) (omega arith) i
    ∷ low x (256 ^ 6) (256 ^ 1) (omega arith) i ∷ lowest x i ∷ []
