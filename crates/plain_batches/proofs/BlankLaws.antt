-- A text past a byte order mark, and its blank lines.
use Rattle.std.specs.Prelude.{◌≡◌, ◌≢◌, refl, ℕ, Bool, true, false, if◌then◌else◌, List, [], ◌∷◌, drop, take}
use Rattle.std.proofs.Common.{arith}
use Rattle.std.proofs.lemmas.Bool.Decides.{nat_tests}
use Rattle.csv.specs.Reading.{is_bom}
unfoldable use Rattle.csv.specs.Reading.{strip_bom}

abbrev pub byte_order_mark : List ℕ
byte_order_mark = 0xEF ∷ 0xBB ∷ 0xBF ∷ []

-- a text that begins with a mark is read from behind it
pub marked : (csv : List ℕ) → take 3 csv ≡ byte_order_mark → strip_bom csv ≡ drop 3 csv
unfolding strip_bom
marked [] is = cc
marked (a ∷ []) is = cc
marked (a ∷ b ∷ []) is = cc
marked (a ∷ b ∷ c ∷ rest) is =
    let first : a ≡ 0xEF = cc in
    let second : b ≡ 0xBB = cc in
    let third : c ≡ 0xBF = cc in
    rw (first, second, third) refl

mark_of : (a b c : ℕ) → is_bom a b c ≡ true → ◌≡◌ {A = List ℕ} (a ∷ b ∷ c ∷ []) byte_order_mark
mark_of a b c is =
    let first : a ≡ 0xEF = grind (arith, nat_tests) in
    let second : b ≡ 0xBB = grind (arith, nat_tests) in
    let third : c ≡ 0xBF = grind (arith, nat_tests) in
    cc

-- another one is read from its first byte on
pub unmarked : (csv : List ℕ) → take 3 csv ≢ byte_order_mark → strip_bom csv ≡ csv
unfolding strip_bom
unmarked [] not = refl
unmarked (a ∷ []) not = refl
unmarked (a ∷ b ∷ []) not = refl
unmarked (a ∷ b ∷ c ∷ rest) not = go (is_bom a b c) refl
  where
    go : (is : Bool) → is_bom a b c ≡ is → (if is then rest else a ∷ b ∷ c ∷ rest) ≡ a ∷ b ∷ c ∷ rest
    go true is = absurd (not (mark_of a b c is))
    go false is = refl
