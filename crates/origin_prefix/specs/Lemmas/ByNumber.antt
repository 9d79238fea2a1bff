-- Entries under numbers: what is found, and what holds of each.
use Rattle.std.specs.Prelude.{◌≡◌, ◌≢◌, refl, ℕ, ◌<◌, true, false, cond, List, [], ◌∷◌, map, Option, Some, None, unwrap_or}
use Rattle.std.proofs.Common.{◌∙◌, sym, ap, subst, inl, inr, arith}
use Rattle.std.proofs.lemmas.Bool.{true≢false, cases_lt}
use Rattle.std.specs.Option.{is_some}
use Rattle.std.specs.Map.{lookup}
use Rattle.std.specs.List.{AllByRecursion}
use Rattle.std.specs.List.Sorted.{IsStrictlySortedBy}
use Rattle.std.specs.Ordering.{eq_by_cmp, nat_cmp, is_eq, match_ordering}
use Rattle.std.specs.declared.cmp.Ordering.TheVariants.{Less, Equal, Greater}
use Rattle.std.specs.BTreeMap.{insert_entry}
use Rattle.origin_prefix.specs.Lemmas.Lists.{is_itself, is_other, is_same, same_or_other}

-- what is found under a number
abbrev pub at : {X : Type 0} → List (ℕ × X) → ℕ → Option X
at es n = lookup (eq_by_cmp nat_cmp n) es

-- the numbers
abbrev pub numbers : {X : Type 0} → List (ℕ × X) → List ℕ
numbers {X} es = map (λ (e : ℕ × X). e.0) es

pub some_is : {X : Type 0} (x y : X) → Some x ≡ Some y → x ≡ y
some_is x y e = ap (λ o. unwrap_or o x) e

module _ {X : Type 0} where
  -- a number in entries that begin with it, and with another one
  pub at_head : (n : ℕ) (x : X) (rest : List (ℕ × X)) → at ((n, x) ∷ rest) n ≡ Some x
  at_head n x rest = ap (λ b. cond b (Some x) (at rest n)) (is_itself n)

  pub behind_head : (m n : ℕ) (x : X) (rest : List (ℕ × X)) → m ≢ n → at ((n, x) ∷ rest) m ≡ at rest m
  behind_head m n x rest other = ap (λ b. cond b (Some x) (at rest m)) (is_other m n other)

  -- what holds of each holds of one that is found
  pub found_holds : (P : ℕ × X → Type 0) (es : List (ℕ × X)) (n : ℕ) (x : X) → AllByRecursion P es → at es n ≡ Some x → P (n, x)
  found_holds P [] n x all there = absurd (true≢false (sym (ap is_some there)))
  found_holds P (e ∷ es) n x all there =
      elim (eq_by_cmp nat_cmp n e.0) as (λ b. eq_by_cmp nat_cmp n e.0 ≡ b → cond b (Some e.1) (at es n) ≡ Some x → P (n, x)) [
        | true ↦ λ same there. subst P (λ i. (sym (is_same n e.0 same) i, some_is e.1 x there i)) all.0
        | false ↦ λ same there. found_holds P es n x all.1 there
      ] refl there

  pub none_found : (P : ℕ × X → Type 0) (es : List (ℕ × X)) (n : ℕ) → AllByRecursion P es → ((x : X) → P (n, x) → ⊥) → at es n ≡ None
  none_found P es n all never =
      elim (at es n) as (λ o. at es n ≡ o → o ≡ None) [
        | None ↦ λ e. refl
        | Some x ↦ λ e. absurd (never x (found_holds P es n x all e))
      ] refl

  -- those behind the first of some rising entries are above it
  pub above_first : (n : ℕ) (x : X) (es : List (ℕ × X)) → IsStrictlySortedBy nat_cmp (numbers ((n, x) ∷ es))
      → AllByRecursion (λ (e : ℕ × X). n < e.0) es
  unfolding IsStrictlySortedBy
  above_first n x es rising = go es rising.0
    where
      less : (m : ℕ) → nat_cmp n m ≡ Less → n < m
      less m e = grind arith

      go : (es : List (ℕ × X)) → AllByRecursion (λ m. nat_cmp n m ≡ Less) (numbers es) → AllByRecursion (λ (e : ℕ × X). n < e.0) es
      go [] all = tt
      go (e ∷ es) all = (less e.0 all.0, go es all.1)

  pub rising_rest : (e : ℕ × X) (es : List (ℕ × X)) → IsStrictlySortedBy nat_cmp (numbers (e ∷ es))
      → IsStrictlySortedBy nat_cmp (numbers es)
  unfolding IsStrictlySortedBy
  rising_rest e es rising = rising.1

  -- the number of the first isn't among the others
  pub first_alone : (n : ℕ) (x : X) (es : List (ℕ × X)) → IsStrictlySortedBy nat_cmp (numbers ((n, x) ∷ es)) → at es n ≡ None
  first_alone n x es rising = none_found (λ (e : ℕ × X). n < e.0) es n (above_first n x es rising) (λ y low. omega (arith, low))

  -- what holds of each that is found holds of each
  pub all_found : (P : ℕ × X → Type 0) (es : List (ℕ × X)) → IsStrictlySortedBy nat_cmp (numbers es)
      → ((n : ℕ) (x : X) → at es n ≡ Some x → P (n, x)) → AllByRecursion P es
  all_found P [] rising each = tt
  all_found P (e ∷ es) rising each = (
    each e.0 e.1 (at_head e.0 e.1 es),
    all_found P es (rising_rest e es rising) (λ n x there.
        let above : e.0 < n = found_holds (λ (f : ℕ × X). e.0 < f.0) es n x (above_first e.0 e.1 es rising) there in
        each n x (behind_head n e.0 e.1 es (λ same. omega (arith, same, above)) ∙ there)),
  )

  -- one entry more
  pub put_same : (es : List (ℕ × X)) (n : ℕ) (x : X) → at (insert_entry nat_cmp es n x) n ≡ Some x
  put_same [] n x = at_head n x []
  put_same (e ∷ es) n x =
      elim (nat_cmp n e.0) as (λ o. nat_cmp n e.0 ≡ o
      → at (match_ordering o ((n, x) ∷ e ∷ es) ((e.0, x) ∷ es) (e ∷ insert_entry nat_cmp es n x)) n ≡ Some x) [
        | Less ↦ λ is. at_head n x (e ∷ es)
        | Equal ↦ λ is. ap (λ o. cond (is_eq o) (Some x) (at es n)) is
        | Greater ↦ λ is. ap (λ o. cond (is_eq o) (Some e.1) (at (insert_entry nat_cmp es n x) n)) is ∙ put_same es n x
      ] refl

  pub put_else : (es : List (ℕ × X)) (n : ℕ) (x : X) (m : ℕ) → m ≢ n → at (insert_entry nat_cmp es n x) m ≡ at es m
  put_else [] n x m other = behind_head m n x [] other
  put_else (e ∷ es) n x m other =
      elim (nat_cmp n e.0) as (λ o. nat_cmp n e.0 ≡ o
      → at (match_ordering o ((n, x) ∷ e ∷ es) ((e.0, x) ∷ es) (e ∷ insert_entry nat_cmp es n x)) m ≡ at (e ∷ es) m) [
        | Less ↦ λ is. behind_head m n x (e ∷ es) other
        | Equal ↦ λ is.
            let apart : m ≢ e.0 = λ same. other (same ∙ sym (is_same n e.0 (ap is_eq is))) in
            behind_head m e.0 x es apart ∙ sym (behind_head m e.0 e.1 es apart)
        | Greater ↦ λ is. ap (λ o. cond (eq_by_cmp nat_cmp m e.0) (Some e.1) o) (put_else es n x m other)
      ] refl

  -- what holds of each holds after one entry more
  pub all_put : (P : ℕ × X → Type 0) (n : ℕ) (x : X) (es : List (ℕ × X)) → P (n, x) → AllByRecursion P es
      → AllByRecursion P (insert_entry nat_cmp es n x)
  all_put P n x [] new all = (new, tt)
  all_put P n x (e ∷ es) new all =
      elim (nat_cmp n e.0) as (λ o. nat_cmp n e.0 ≡ o
      → AllByRecursion P (match_ordering o ((n, x) ∷ e ∷ es) ((e.0, x) ∷ es) (e ∷ insert_entry nat_cmp es n x))) [
        | Less ↦ λ is. (new, all)
        | Equal ↦ λ is. (subst (λ m. P (m, x)) (is_same n e.0 (ap is_eq is)) new, all.1)
        | Greater ↦ λ is. (all.0, all_put P n x es new all.1)
      ] refl

  -- entries that begin with a lower number than others have something else under it
  begins_lower : (x y : ℕ × X) (xs ys : List (ℕ × X)) → x.0 < y.0 → IsStrictlySortedBy nat_cmp (numbers (y ∷ ys))
      → at (x ∷ xs) x.0 ≡ at (y ∷ ys) x.0 → ⊥
  begins_lower x y xs ys low rising alike =
      let apart : x.0 ≢ y.0 = λ e. omega (arith, low, e) in
      let none : at ys x.0 ≡ None = none_found (λ (e : ℕ × X). y.0 < e.0) ys x.0 (above_first y.0 y.1 ys rising)
      (λ r high. omega (arith, low, high)) in
      true≢false (ap is_some (sym (at_head x.0 x.1 xs) ∙ alike ∙ behind_head x.0 y.0 y.1 ys apart ∙ none))

  -- what is behind the first of entries that begin with the same number
  same_behind : (a b : ℕ × X) (one other : List (ℕ × X)) → a.0 ≡ b.0 → IsStrictlySortedBy nat_cmp (numbers (a ∷ one))
      → IsStrictlySortedBy nat_cmp (numbers (b ∷ other)) → ((n : ℕ) → at (a ∷ one) n ≡ at (b ∷ other) n)
      → (n : ℕ) → at one n ≡ at other n
  same_behind a b one other e rises too same n = elim (same_or_other n a.0) [
    | inl is ↦
        ap (at one) is ∙ first_alone a.0 a.1 one rises ∙ sym (ap (at other) (is ∙ e) ∙ first_alone b.0 b.1 other too)
    | inr off ↦ sym (behind_head n a.0 a.1 one off) ∙ same n ∙ behind_head n b.0 b.1 other (λ is. off (is ∙ sym e))
  ]

  -- rising entries are those that have the same under each number
  pub same_entries : (one other : List (ℕ × X)) → IsStrictlySortedBy nat_cmp (numbers one) → IsStrictlySortedBy nat_cmp (numbers other)
      → ((n : ℕ) → at one n ≡ at other n) → one ≡ other
  same_entries [] [] rises too same = refl
  same_entries [] (b ∷ other) rises too same = absurd (true≢false (sym (ap is_some (same b.0 ∙ at_head b.0 b.1 other))))
  same_entries (a ∷ one) [] rises too same = absurd (true≢false (ap is_some (sym (at_head a.0 a.1 one) ∙ same a.0)))
  same_entries (a ∷ one) (b ∷ other) rises too same = elim (cases_lt a.0 b.0) [
    | inl low ↦ absurd (begins_lower a b one other low too (same a.0))
    | inr high ↦ elim (cases_lt b.0 a.0) [
      | inl low ↦ absurd (begins_lower b a other one low rises (sym (same b.0)))
      | inr less ↦
          let e : a.0 ≡ b.0 = omega (arith, high, less) in
          let rows : a.1 ≡ b.1 = some_is a.1 b.1 (sym (at_head a.0 a.1 one) ∙ same a.0 ∙ ap (at (b ∷ other)) e
          ∙ at_head b.0 b.1 other) in
          let rest : one ≡ other = same_entries one other (rising_rest a one rises) (rising_rest b other too)
          (same_behind a b one other e rises too same) in
          λ i. (e i, rows i) ∷ rest i
    ]
  ]
