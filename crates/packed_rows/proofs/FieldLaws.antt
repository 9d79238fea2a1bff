-- What an input field stands for.
use Rattle.std.specs.Prelude.{Result, Ok, Err, None, MatchResult, ℤ, ◌≡◌, ◌≢◌, ◌<◌, ◌≤◌, ◌+◌, ◌-◌, ◌*◌, ◌^◌, ℕ, Bool, true, false, List}
use Rattle.std.specs.Prelude.{[], ◌∷◌}
use Rattle.std.specs.Prelude.{All, drop, length, slice_index_or, take, IsUtf8}
use Rattle.std.specs.Result.{result_ok}
use Rattle.std.proofs.Common.{add-one, refl, sym, ap, subst, ◌∙◌, cond, eqb, arith}
use Rattle.std.proofs.Math.Nat.{pow-le-pow_right, pow-succ'}
use Rattle.std.proofs.lemmas.List.{drop_more, take_all, take_more}
use Rattle.std.proofs.lemmas.List.Elements.{All-push}
use Rattle.std.proofs.lemmas.Int.Digits.{digits_push}
use Rattle.std.proofs.lemmas.Str.{digit_value_digit}
use Rattle.std.proofs.lemmas.Str.Parse.{digit_from_value}
use Rattle.std.specs.Char.{digit_value}
use Rattle.std.proofs.lemmas.Bool.{eqb-true}
use Rattle.std.proofs.lemmas.Fmt.{IsAscii-from_digits}
use Rattle.std.proofs.lemmas.Str.{IsUtf8-from_ascii}
use Rattle.std.proofs.lemmas.Str.Ascii.{IsAscii-cons, IsAscii-from_all}
use Rattle.std.specs.Str.{IsAscii}
use Rattle.packed_rows.specs.Field.{IsBigintField}
use Rattle.std.specs.Str.Parse.{AllDigits, IsNumeral, digits_value, digits_value_after, without_leading_sign}

-- a sign and digits are ASCII, whichever sign it is
signed_ascii : (c : ℕ) (cs : List ℕ) (minus plus : Bool) → eqb c 45 ≡ minus → eqb c 43 ≡ plus
    → AllDigits 10 (cond minus cs (cond plus cs (c ∷ cs))) → IsAscii (c ∷ cs)
signed_ascii c cs true plus m p h = IsAscii-cons c cs (omega (arith, eqb-true c 45 m)) (IsAscii-from_digits cs h)
signed_ascii c cs false true m p h = IsAscii-cons c cs (omega (arith, eqb-true c 43 p)) (IsAscii-from_digits cs h)
signed_ascii c cs false false m p h = IsAscii-from_digits (c ∷ cs) h

dropped : (plus : Bool) (c : ℕ) (cs : List ℕ) → drop (cond plus 1 0) (c ∷ cs) ≡ cond plus cs (c ∷ cs)
dropped true c cs = refl
dropped false c cs = refl

pub number_utf8 : (field : List ℕ) → IsNumeral 10 (without_leading_sign field) → IsUtf8 field
number_utf8 [] h = absurd (omega (arith, h.0))
number_utf8 (c ∷ cs) h =
    let digits : AllDigits 10 (cond (eqb c 45) cs (cond (eqb c 43) cs (c ∷ cs))) = rw (← dropped (eqb c 43) c cs) h.1 in
    IsUtf8-from_ascii (c ∷ cs) (signed_ascii c cs (eqb c 45) (eqb c 43) refl refl digits)

pub no_number : (field : List ℕ) (z : ℤ) → ¬ (IsUtf8 field) → ¬ (IsBigintField field z)
no_number field z h = λ number. h (number_utf8 field number.0)

-- what an error says, where there is no value
pub at_error : {X E N : Type 0} (P : X → Type 0) (Q : E → Type 0) (r : Result X E) → MatchResult r P (λ e. N × Q e) → None ≡ result_ok r → N
at_error P Q (Ok x) h none = absurd cc
at_error P Q (Err e) h none = h.0

-- ---- digits one by one

-- with one digit more, a number of fewer than nineteen has 64 bits
pub short_digits : (value index : ℕ) → value < 10 ^ index → index < 18 → value * 10 + 256 ≤ 2 ^ 63
short_digits value index h few = omega (arith, pow-le-pow_right {n = 10} (omega arith) {i = index} {j = 17} (omega arith))

pub low_number : (value index : ℕ) → value < 10 ^ index → index ≤ 18 → value < 2 ^ 63
low_number value index h few = omega (arith, pow-le-pow_right {n = 10} (omega arith) {i = index} {j = 18} few)

-- the first digits, and the number that all stand for if these stand for one
abbrev pub DigitsSoFar : List ℕ → ℕ → ℕ → Type 0
DigitsSoFar digits index value = (value < 10 ^ index) × AllDigits 10 (take index digits)
    × (digits_value_after 10 value (drop index digits) ≡ digits_value 10 digits)

pub digit_more : (digits : List ℕ) (index d value more : ℕ) → index < length digits → DigitsSoFar digits index value
    → digit_value (slice_index_or digits index d) < 10 → more ≡ slice_index_or digits index d - 48
    → DigitsSoFar digits (index + 1) (value * 10 + more)
digit_more digits index d value more h so_far digit is =
    let c = slice_index_or digits index d in
    let known : digit_value c + 48 ≡ c = digit_value_digit c (digit_from_value c digit) in
    let same : digit_value c ≡ more = omega (arith, known, is) in
    let step : 10 ^ (index + 1) ≡ 10 * 10 ^ index = ap (λ n. 10 ^ n) (add-one index) ∙ pow-succ' 10 index in
    let small : more < 10 = subst (λ n. n < 10) same digit in
    let low : value * 10 + more < 10 ^ (index + 1) = omega (arith, so_far.0, small, step) in (
      low,
      subst (AllDigits 10) (sym (take_more digits index d h)) (digits_push 10 (take index digits) c so_far.1 digit),
      ap (λ n. digits_value_after 10 (value * 10 + n) (drop (index + 1) digits)) (sym same)
          ∙ ap (digits_value_after 10 value) (sym (drop_more digits index d h)) ∙ so_far.2,
    )

-- ---- bytes one by one

-- each is of ASCII, and none is zero
abbrev pub ArePlain : List ℕ → Type 0
ArePlain bytes = All (λ b. (0 < b) × (b < 128)) bytes

pub plain_more : (bytes : List ℕ) (i d : ℕ) → i < length bytes → ArePlain (take i bytes) → slice_index_or bytes i d ≢ 0
    → slice_index_or bytes i d < 128 → ArePlain (take (i + 1) bytes)
plain_more bytes i d h plain some low =
    let b = slice_index_or bytes i d in
    let p : (0 < b) × (b < 128) = (omega (arith, some), low) in
    subst ArePlain (sym (take_more bytes i d h)) (All-push (λ b. (0 < b) × (b < 128)) (take i bytes) b plain p)

pub all_plain : (bytes : List ℕ) (i : ℕ) → length bytes ≤ i → ArePlain (take i bytes) → ArePlain bytes
all_plain bytes i h plain = subst ArePlain (take_all i bytes h) plain

pub plain_utf8 : (bytes : List ℕ) → ArePlain bytes → IsUtf8 bytes
plain_utf8 bytes plain = IsUtf8-from_ascii bytes (IsAscii-from_all bytes (λ k d h. (plain k d h).1))
