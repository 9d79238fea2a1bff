-- The least and the greatest member of a list, and the bits of a number.
use Rattle.std.specs.Prelude.{◌≡◌, refl, ℕ, zero, suc, ◌+◌, ◌-◌, ◌*◌, ◌^◌, ◌<◌, ◌⊎◌, ◌==◌, Bool, true, false, T, cond, List, [], ◌∷◌, ℤ}
use Rattle.std.specs.Prelude.{pos, negsuc, FitsSigned, ◌≤ℤ◌, ◌<ℤ◌, int_le, int_lt, find, Contains, ◌↔◌, Some, is_some, IsSome, ◌++◌, ◌%◌}
use Rattle.std.specs.Prelude.{◌&&◌, ◌||◌, count_by, None}
use Rattle.std.proofs.Common.{sym, ◌∙◌, ap, subst, inl, inr, arith}
use Rattle.std.specs.List.{list_all, list_any}
use Rattle.std.specs.Int.{w64, cast_unsigned, cast_signed, bit_at, int_min, int_max}
use Rattle.std.specs.Int.Signed.{le_z_yes, ≤ℤ_refl, <ℤ-≤ℤ_trans, clash_ℤ}
use Rattle.std.proofs.lemmas.Int.{of_z-to_z, to_z-of_z}
use Rattle.std.proofs.lemmas.Nat.Bits.{bit_at_cat_low, bit_at_cat_high, bit_at-lt, same_from_bits_below}
use Rattle.std.proofs.Math.Nat.{pow-suc}
use Rattle.std.proofs.Math.Facts.{sfits_to_z}
use Rattle.std.proofs.lemmas.List.{append-nil}
use Rattle.std.proofs.lemmas.List.Elements.{Contains-append_left, Contains-append_right, Contains-append_cases}
use Rattle.std.proofs.Math.Bool.{and-true}
use Rattle.grouping_model.specs.Combining.{joined}
use Rattle.grouping_model.specs.Aggregates.{bits_of_all, bits_of_some, bits_of_odd, least, greatest, has_bit, unsigned_of_bits}
use Rattle.grouping_model.specs.Aggregates.{number_of_bits}
use Rattle.grouping_model.specs.MemberLaws.{false_is_not_true, Member, from_contains, to_contains, all_member, member_all, found_member}
use Rattle.grouping_model.specs.MemberLaws.{found_some}
use Rattle.std.proofs.lemmas.Bool.Decides.{nat_tests}
use Rattle.std.proofs.lemmas.Grind.{common_steps}

-- one of two numbers is at most the other, and both only where they are equal
order_of : {G : Type 0} (x y : ℤ) → (x <ℤ y → G) → (x ≡ y → G) → (y <ℤ x → G) → G
order_of {G} x y below same above = grind (arith, nat_tests, common_steps)

at_most_both : (x y : ℤ) → x ≤ℤ y → y ≤ℤ x → x ≡ y
at_most_both x y l m = order_of x y (λ below. clash_ℤ below m) (λ same. same) (λ above. clash_ℤ above l)

at_most_or_above : (x y : ℤ) → (x ≤ℤ y) ⊎ (y <ℤ x)
at_most_or_above x y = grind (arith, nat_tests, common_steps)

at_most_chain : (x y z : ℤ) → x ≤ℤ y → y ≤ℤ z → x ≤ℤ z
at_most_chain x y z l m = elim (at_most_or_above x z) [ inl done ↦ done | inr above ↦ clash_ℤ (<ℤ-≤ℤ_trans above l) m ]

at_most_either : (x y : ℤ) → (x ≤ℤ y) ⊎ (y ≤ℤ x)
at_most_either x y = grind (arith, nat_tests, common_steps)

so : (b : Bool) → T b → b ≡ true
so true t = refl
so false t = absurd t

tested : (x y : ℤ) → x ≤ℤ y → int_le x y ≡ true
tested x y l = so (int_le x y) l.le

untested : (x y : ℤ) → int_le x y ≡ true → x ≤ℤ y
untested x y e = le_z_yes (subst T (sym e) tt)

le_chain : (x y z : ℤ) → int_le x y ≡ true → int_le y z ≡ true → int_le x z ≡ true
le_chain x y z p q = tested x z (at_most_chain x y z (untested x y p) (untested y z q))

le_either : (x y : ℤ) → (int_le x y ≡ true) ⊎ (int_le y x ≡ true)
le_either x y = elim (at_most_either x y) [ inl l ↦ inl (tested x y l) | inr m ↦ inr (tested y x m) ]

le_both : (x y : ℤ) → int_le x y ≡ true → int_le y x ≡ true → x ≡ y
le_both x y p q = at_most_both x y (untested x y p) (untested y x q)

-- the first member that stands before all, by a test that orders numbers
module _ (before : ℤ → ℤ → Bool) (itself : (x : ℤ) → before x x ≡ true) (chain : (x y z : ℤ) → before x y ≡ true → before y z ≡ true
    → before x z ≡ true) (either : (x y : ℤ) → (before x y ≡ true) ⊎ (before y x ≡ true)) (both : (x y : ℤ) → before x y ≡ true → before y x
    ≡ true → x ≡ y) where
  abbrev leads : List ℤ → ℤ → Bool
  leads zs z = list_all (λ y. before z y) zs

  some_leads : (z : ℤ) (zs : List ℤ) → (w : ℤ) × Member (z ∷ zs) w × ((y : ℤ) → Member (z ∷ zs) y → before w y ≡ true)
  some_leads z [] = (z, inl refl, λ y m. elim m [ inl e ↦ ap (before z) (sym e) ∙ itself z | inr n ↦ absurd n ])
  some_leads z (y ∷ ys) =
      let rest = some_leads y ys in
      elim (either z rest.0) as (λ c. (w : ℤ) × Member (z ∷ y ∷ ys) w × ((v : ℤ) → Member (z ∷ y ∷ ys) v → before w v ≡ true)) [
        | inl first ↦ (
          z,
          inl refl,
          λ v m. elim m [
            | inl e ↦ ap (before z) (sym e)
                ∙ itself z
            | inr n ↦ chain z rest.0 v first (rest.2 v n)
          ],
        )
        | inr later ↦ (rest.0, inr rest.1, λ v m. elim m [ inl e ↦ ap (before rest.0) (sym e) ∙ later | inr n ↦ rest.2 v n ])
      ]

  leader_is : (zs : List ℤ) (z : ℤ) → find (leads zs) zs ≡ Some z ↔ (Contains zs z × ((y : ℤ) → Contains zs y → before z y ≡ true))
  leader_is zs z = (
    λ e.
        let found = found_member (leads zs) zs z e in
        (to_contains zs z found.0, λ y c. all_member (λ y. before z y) zs y found.1 (from_contains zs y c)),
    λ (c, all).
        let own : Member zs z = from_contains zs z c in
        let found = found_some (leads zs) zs z own (member_all (λ y. before z y) zs (λ y m. all y (to_contains zs y m))) in
        let first = found_member (leads zs) zs found.0 found.1 in
        let same : found.0 ≡ z = both found.0 z (all_member (λ y. before found.0 y) zs z first.1 own)
        (all found.0 (to_contains zs found.0 first.0)) in
        found.1 ∙ ap Some same,
  )

  leader_some : (z : ℤ) (zs : List ℤ) → (w : ℤ) × (find (leads (z ∷ zs)) (z ∷ zs) ≡ Some w)
  leader_some z zs =
      let first = some_leads z zs in
      found_some (leads (z ∷ zs)) (z ∷ zs) first.0 first.1 (member_all (λ y. before first.0 y) (z ∷ zs) first.2)

  leader_of_some : (z : ℤ) (zs : List ℤ) → IsSome (find (leads (z ∷ zs)) (z ∷ zs))
  leader_of_some z zs = ap is_some (leader_some z zs).1

  -- the leader of two lists appended: the one that pick takes of both leaders
  leader_append : (pick : ℤ → ℤ → ℤ) → ((x y : ℤ) → before (pick x y) x ≡ true) → ((x y : ℤ) → before (pick x y) y ≡ true)
      → ((x y : ℤ) → (pick x y ≡ x) ⊎ (pick x y ≡ y)) → (xs ys : List ℤ) → find (leads (xs ++ ys)) (xs ++ ys)
      ≡ joined pick (find (leads xs) xs) (find (leads ys) ys)
  leader_append pick left right one [] ys = refl
  leader_append pick left right one (x ∷ xs) [] =
      let first = leader_some x xs in
      ap (λ zs. find (leads (x ∷ zs)) (x ∷ zs)) (append-nil xs) ∙ first.1 ∙ ap (λ o. joined pick o None) (sym first.1)
  leader_append pick left right one (x ∷ xs) (y ∷ ys) =
      let u = leader_some x xs in
      let v = leader_some y ys in
      let u_leads = (leader_is (x ∷ xs) u.0).0 u.1 in
      let v_leads = (leader_is (y ∷ ys) v.0).0 v.1 in
      let w : ℤ = pick u.0 v.0 in
      let own : Contains ((x ∷ xs) ++ (y ∷ ys)) w =
      elim (one u.0 v.0) [
        | inl e ↦ Contains-append_left (x ∷ xs) (y ∷ ys) w (subst (Contains (x ∷ xs)) (sym e) u_leads.0)
        | inr e ↦ Contains-append_right (x ∷ xs) (y ∷ ys) w (subst (Contains (y ∷ ys)) (sym e) v_leads.0)
      ]
      in
      let all : (z : ℤ) → Contains ((x ∷ xs) ++ (y ∷ ys)) z → before w z ≡ true = λ z c.
      elim (Contains-append_cases (x ∷ xs) (y ∷ ys) z c) [
        | inl d ↦ chain w u.0 z (left u.0 v.0) (u_leads.1 z d)
        | inr d ↦ chain w v.0 z (right u.0 v.0) (v_leads.1 z d)
      ]
      in
      (leader_is ((x ∷ xs) ++ (y ∷ ys)) w).1 (own, all) ∙ (λ i. joined pick (sym u.1 i) (sym v.1 i))

pub least_is : (zs : List ℤ) (z : ℤ) → least zs ≡ Some z ↔ (Contains zs z × ((y : ℤ) → Contains zs y → z ≤ℤ y))
least_is zs z =
    let law = leader_is int_le (λ x. tested x x (≤ℤ_refl x)) le_chain le_either le_both zs z in
    (λ e. let found = law.0 e in (found.0, λ y c. untested z y (found.1 y c)), λ (c, all). law.1 (c, λ y d. tested z y (all y d)))

pub greatest_is : (zs : List ℤ) (z : ℤ) → greatest zs ≡ Some z ↔ (Contains zs z × ((y : ℤ) → Contains zs y → y ≤ℤ z))
greatest_is zs z =
    let law = leader_is (λ x y. int_le y x) (λ x. tested x x (≤ℤ_refl x)) (λ x y w p q. le_chain w y x q p) (λ x y. le_either y x)
    (λ x y p q. le_both x y q p) zs z in
    (λ e. let found = law.0 e in (found.0, λ y c. untested y z (found.1 y c)), λ (c, all). law.1 (c, λ y d. tested y z (all y d)))

pub least_of_some : (z : ℤ) (zs : List ℤ) → IsSome (least (z ∷ zs))
least_of_some = leader_of_some int_le (λ x. tested x x (≤ℤ_refl x)) le_chain le_either le_both

pub greatest_of_some : (z : ℤ) (zs : List ℤ) → IsSome (greatest (z ∷ zs))
greatest_of_some = leader_of_some (λ x y. int_le y x) (λ x. tested x x (≤ℤ_refl x)) (λ x y w p q. le_chain w y x q p) (λ x y. le_either y x)
    (λ x y p q. le_both x y q p)

-- the lesser and the greater of two numbers: one of them, and before both
lesser_left : (x y : ℤ) → int_le (int_min x y) x ≡ true
lesser_left x y = grind (arith, nat_tests, common_steps)

lesser_right : (x y : ℤ) → int_le (int_min x y) y ≡ true
lesser_right x y = grind (arith, nat_tests, common_steps)

lesser_one : (x y : ℤ) → (int_min x y ≡ x) ⊎ (int_min x y ≡ y)
lesser_one x y = elim (int_lt y x) as (λ b. (cond b y x ≡ x) ⊎ (cond b y x ≡ y)) [ true ↦ inr refl | false ↦ inl refl ]

greater_left : (x y : ℤ) → int_le x (int_max x y) ≡ true
greater_left x y = grind (arith, nat_tests, common_steps)

greater_right : (x y : ℤ) → int_le y (int_max x y) ≡ true
greater_right x y = grind (arith, nat_tests, common_steps)

greater_one : (x y : ℤ) → (int_max x y ≡ x) ⊎ (int_max x y ≡ y)
greater_one x y = elim (int_lt y x) as (λ b. (cond b x y ≡ x) ⊎ (cond b x y ≡ y)) [ true ↦ inl refl | false ↦ inr refl ]

pub least_append : (xs ys : List ℤ) → least (xs ++ ys) ≡ joined int_min (least xs) (least ys)
least_append = leader_append int_le (λ x. tested x x (≤ℤ_refl x)) le_chain le_either le_both int_min lesser_left lesser_right lesser_one

pub greatest_append : (xs ys : List ℤ) → greatest (xs ++ ys) ≡ joined int_max (greatest xs) (greatest ys)
greatest_append =
    leader_append (λ x y. int_le y x) (λ x. tested x x (≤ℤ_refl x)) (λ x y w p q. le_chain w y x q p) (λ x y. le_either y x)
    (λ x y p q. le_both x y q p) int_max greater_left greater_right greater_one

-- ---- bits

pub bits_below : (is_set : ℕ → Bool) (n : ℕ) → unsigned_of_bits is_set n < 2 ^ n
bits_below is_set zero = omega arith
bits_below is_set (suc n) =
    let rest : unsigned_of_bits is_set n < 2 ^ n = bits_below is_set n in
    let power : 2 ^ suc n ≡ 2 ^ n * 2 = pow-suc 2 n in
    elim (is_set n) as (λ b. cond b 1 0 * 2 ^ n + unsigned_of_bits is_set n < 2 ^ suc n) [ true ↦ omega arith | false ↦ omega arith ]

pub unsigned_bit_is : (is_set : ℕ → Bool) (n i : ℕ) → i < n → bit_at (unsigned_of_bits is_set n) i ≡ cond (is_set i) 1 0
unsigned_bit_is is_set zero i l = absurd (omega arith)
unsigned_bit_is is_set (suc n) i l =
    elim (last_or_below i n l) [
      | inl same ↦
          subst (λ j. bit_at (cond (is_set n) 1 0 * 2 ^ n + unsigned_of_bits is_set n) j ≡ cond (is_set j) 1 0) (sym same)
          (bit_at_cat_high (cond (is_set n) 1 0) n (unsigned_of_bits is_set n) n (bits_below is_set n) (omega arith)
          ∙ ap (bit_at (cond (is_set n) 1 0)) (no_more n) ∙ lowest (is_set n))
      | inr below ↦ bit_at_cat_low (cond (is_set n) 1 0) n (unsigned_of_bits is_set n) i below ∙ unsigned_bit_is is_set n i below
    ]
  where
    last_or_below : (i n : ℕ) → i < suc n → (i ≡ n) ⊎ (i < n)
    last_or_below zero zero l = inl refl
    last_or_below zero (suc n) l = inr (omega arith)
    last_or_below (suc i) zero l = absurd (omega arith)
    last_or_below (suc i) (suc n) l = elim (last_or_below i n (omega arith)) [
      | inl same ↦ inl (ap suc same)
      | inr below ↦ inr (omega arith)
    ]

    no_more : (n : ℕ) → n - n ≡ 0
    no_more n = omega arith

    lowest : (b : Bool) → bit_at (cond b 1 0) 0 ≡ cond b 1 0
    lowest true = refl
    lowest false = refl

pub bit_is : (is_set : ℕ → Bool) (i : ℕ) → i < 64 → has_bit i (number_of_bits is_set) ≡ is_set i
bit_is is_set i l =
    ap (λ n. bit_at n i == 1) (of_z-to_z w64 (unsigned_of_bits is_set 64) (bits_below is_set 64))
    ∙ ap (λ n. n == 1) (unsigned_bit_is is_set 64 i l) ∙ as_bit (is_set i)
  where
    as_bit : (b : Bool) → (cond b 1 0 == 1) ≡ b
    as_bit true = refl
    as_bit false = refl

pub bits_fit : (is_set : ℕ → Bool) → FitsSigned w64 (number_of_bits is_set)
bits_fit is_set = sfits_to_z {w = w64} (record { fits = bits_below is_set 64 })

unsigned_below : (z : ℤ) → FitsSigned w64 z → cast_unsigned w64 z < 2 ^ 64
unsigned_below (pos n) fits = let low : n < 2 ^ 63 = fits.sfits in omega arith
unsigned_below (negsuc n) fits = omega arith

-- a bit as a digit
digit_is : (d e : ℕ) → d < 2 → e < 2 → (d == 1) ≡ (e == 1) → d ≡ e
digit_is zero zero l m same = refl
digit_is zero (suc zero) l m same = false_is_not_true same
digit_is (suc zero) zero l m same = false_is_not_true (sym same)
digit_is (suc zero) (suc zero) l m same = refl
digit_is (suc (suc d)) e l m same = absurd (omega arith)
digit_is d (suc (suc e)) l m same = absurd (omega arith)

pub same_from_64_bits : (x y : ℤ) → FitsSigned w64 x → FitsSigned w64 y → ((i : ℕ) → i < 64 → has_bit i x ≡ has_bit i y) → x ≡ y
same_from_64_bits x y fits_x fits_y same =
    sym (to_z-of_z w64 x fits_x)
    ∙ ap (cast_signed w64)
    (same_from_bits_below 64 (cast_unsigned w64 x) (cast_unsigned w64 y) (unsigned_below x fits_x) (unsigned_below y fits_y)
    (λ i l. digit_is (bit_at (cast_unsigned w64 x) i) (bit_at (cast_unsigned w64 y) i) (bit_at-lt (cast_unsigned w64 x) i)
    (bit_at-lt (cast_unsigned w64 y) i) (same i l)))
    ∙ to_z-of_z w64 y fits_y

-- a number is made of its own bits
own_bits : (is_set : ℕ → Bool) (z : ℤ) → FitsSigned w64 z → ((i : ℕ) → is_set i ≡ has_bit i z) → number_of_bits is_set ≡ z
own_bits is_set z fits own = same_from_64_bits (number_of_bits is_set) z (bits_fit is_set) fits (λ i l. bit_is is_set i l ∙ own i)

pub bits_of_one : (z : ℤ) → FitsSigned w64 z → (bits_of_all (z ∷ []) ≡ z) × (bits_of_some (z ∷ []) ≡ z) × (bits_of_odd (z ∷ []) ≡ z)
bits_of_one z fits = (
  own_bits (λ i. list_all (has_bit i) (z ∷ [])) z fits (λ i. and-true (has_bit i z)),
  own_bits (λ i. list_any (has_bit i) (z ∷ [])) z fits (λ i. or_end (has_bit i z)),
  own_bits (λ i. count_by (has_bit i) (z ∷ []) % 2 == 1) z fits (λ i. odd_end (has_bit i z)),
)
  where
    or_end : (b : Bool) → (b || false) ≡ b
    or_end true = refl
    or_end false = refl

    odd_end : (b : Bool) → ((0 + cond b 1 0) % 2 == 1) ≡ b
    odd_end true = refl
    odd_end false = refl

-- a list of one number has it as its least and as its greatest member
pub least_of_one : (z : ℤ) → least (z ∷ []) ≡ Some z
least_of_one z = ap (λ b. cond (b && true) (Some z) None) (tested z z (≤ℤ_refl z))

pub greatest_of_one : (z : ℤ) → greatest (z ∷ []) ≡ Some z
greatest_of_one z = ap (λ b. cond (b && true) (Some z) None) (tested z z (≤ℤ_refl z))
