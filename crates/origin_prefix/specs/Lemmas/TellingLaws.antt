-- What a part tells, before and after.
use Rattle.std.specs.Prelude.{◌≡◌, ◌≢◌, refl, ℕ, suc, ◌+◌, ◌<◌, ◌≤◌, ◌⊎◌, ◌==◌, ◌||◌, ◌&&◌, nat_le, nat_lt, Bool, true, false, List, []}
use Rattle.std.specs.Prelude.{◌∷◌, drop, Option, Some, None, if◌then◌else◌}
use Rattle.std.proofs.Common.{◌∙◌, sym, ap, subst, inl, inr, arith}
use Rattle.std.proofs.lemmas.Bool.{cases_lt, or_right}
use Rattle.std.specs.Option.{is_some}
use Rattle.std.specs.List.Sorted.{IsStrictlySortedBy}
use Rattle.std.specs.Ordering.{eq_by_cmp, nat_cmp}
use Rattle.grouping_model.specs.Query.{Query}
use Rattle.grouping_model.specs.Rising.Facts.{or_comm}
use Rattle.grouping_model.specs.declared.delivered.Delivered.{Delivered}
use Rattle.grouping_model.specs.declared.delivered.Delivered.TheVariants.{Folded, Early, Known}
use Rattle.packed_rows.specs.Columns.{kinds}
use Rattle.query_checks.specs.Checks.{Checked}
use Rattle.origin_prefix.specs.Parts.{Batches, Part, rows_at, IsEarly, IsPartOf, tells, following, Drains, Delivers}
use Rattle.origin_prefix.specs.Joins.{either, longer, Unites, Joins}
use Rattle.origin_prefix.specs.Lemmas.Lists.{is_itself, is_other, same_or_other}
use Rattle.origin_prefix.specs.Lemmas.ByNumber.{numbers, at_head, behind_head, none_found, rising_rest, put_same, put_else}
use Rattle.origin_prefix.specs.Lemmas.DeliverLaws.{next_rising}

-- ---- a prefix and the batches behind it

abbrev pub tells_of : ℕ → Batches → ℕ → Bool
tells_of prefix batches m = (nat_le 1 m && nat_le m prefix) || is_some (rows_at batches m)

-- the batch next to the prefix joins it
next_joins : (p : ℕ) (rows : List (List ℕ)) (rest : Batches) (m : ℕ) → tells_of (p + 1) rest m ≡ tells_of p ((p + 1, rows) ∷ rest) m
next_joins p rows rest m = go (same_or_other m (p + 1))
  where
    go : (m ≡ p + 1) ⊎ (m ≢ p + 1) → tells_of (p + 1) rest m ≡ tells_of p ((p + 1, rows) ∷ rest) m
    go (inl same) =
        subst (λ n. tells_of (p + 1) rest n ≡ tells_of p ((p + 1, rows) ∷ rest) n) (sym same)
        (let low : nat_le 1 (p + 1) ≡ true = grind arith in
        let high : nat_le (p + 1) (p + 1) ≡ true = grind arith in
        (λ i. (low i && high i) || is_some (rows_at rest (p + 1)))
        ∙ sym (ap (λ o. (nat_le 1 (p + 1) && nat_le (p + 1) p) || is_some o) (at_head (p + 1) rows rest)
        ∙ or_right (nat_le 1 (p + 1) && nat_le (p + 1) p) true refl))
    go (inr other) =
        let within : nat_le m (p + 1) ≡ nat_le m p =
        elim (cases_lt p m) [
          | inl above ↦
              let one : nat_le m (p + 1)
              ≡ false = elim (cases_lt (p + 1) m) [ inl l ↦ grind arith | inr h ↦ absurd (other (omega (arith, above, h))) ] in
              let two : nat_le m p ≡ false = grind arith in one ∙ sym two
          | inr low ↦ let one : nat_le m (p + 1) ≡ true = grind arith in let two : nat_le m p ≡ true = grind arith in one ∙ sym two
        ] in
        (λ i. (nat_le 1 m && within i) || is_some (rows_at rest m))
        ∙ ap (λ o. (nat_le 1 m && nat_le m p) || is_some o) (sym (behind_head m (p + 1) rows rest other))

-- a prefix that takes the batches that follow tells the same
pub drained_tells : (p : ℕ) (batches : Batches) → IsStrictlySortedBy nat_cmp (numbers batches) → (m : ℕ)
    → tells_of (p + following p batches) (drop (following p batches) batches) m ≡ tells_of p batches m
drained_tells p [] rising m = let none : p + 0 ≡ p = omega arith in ap (λ n. tells_of n [] m) none
drained_tells p (b ∷ batches) rising m =
    elim (b.0 == p + 1) as (λ t. (b.0 == p + 1) ≡ t
    → tells_of (p + (if t then suc (following (p + 1) batches) else 0)) (drop (if t then suc (following (p + 1) batches) else 0) (b
    ∷ batches)) m ≡ tells_of p (b ∷ batches) m) [
      | true ↦ λ e.
          let next : b.0 ≡ p + 1 = grind arith in
          let moved : p + suc (following (p + 1) batches) ≡ p + 1 + following (p + 1) batches = omega arith in
          ap (λ n. tells_of n (drop (following (p + 1) batches) batches) m) moved
          ∙ drained_tells (p + 1) batches (rising_rest b batches rising) m
          ∙ next_joins p b.1 batches m
          ∙ ap (λ n. tells_of p ((n, b.1) ∷ batches) m) (sym next)
      | false ↦ λ e. let none : p + 0 ≡ p = omega arith in ap (λ n. tells_of n (b ∷ batches) m) none
    ] refl

pub drains_tells : (honest : Bool) (q : Query) (p : ℕ) (run : List _) (batches : Batches) (new : Part)
    → IsStrictlySortedBy nat_cmp (numbers batches) → Drains honest q p run batches new → (m : ℕ) → tells new m ≡ tells_of p batches m
drains_tells honest q p run batches new rising drains m =
    (λ i. tells_of (drains.upto i) (drains.early i) m) ∙ drained_tells p batches rising m

-- ---- a batch that is delivered

told_more : (new old : ℕ → Bool) (number : ℕ) → new number ≡ true → ((m : ℕ) → m ≢ number → new m ≡ old m) → (m : ℕ) → new m
    ≡ (eq_by_cmp nat_cmp m number || old m)
told_more new old number own others m = go (same_or_other m number)
  where
    go : (m ≡ number) ⊎ (m ≢ number) → new m ≡ (eq_by_cmp nat_cmp m number || old m)
    go (inl same) = ap new same ∙ own ∙ sym (ap (λ b. b || old m) (ap (eq_by_cmp nat_cmp m) (sym same) ∙ is_itself m))
    go (inr other) = others m other ∙ sym (ap (λ b. b || old m) (is_other m number other))

pub delivered_tells : (honest : Bool) (query : Checked) (q : Query) (old new : Part) (number : ℕ) (rows : List (List ℕ)) (reply : Delivered)
    → IsPartOf query old → 1 ≤ number → Delivers honest q old number rows new reply
    → (m : ℕ) → tells new m ≡ (eq_by_cmp nat_cmp m number || tells old m)
delivered_tells honest query q old new number rows Known is low d =
    told_more (tells new) (tells old) number
    (ap (λ (p : Part). tells p number) d.2 ∙ d.0)
    (λ m other. ap (λ (p : Part). tells p m) d.2)
delivered_tells honest query q old new number rows Early is low d =
    told_more (tells new) (tells old) number
    (ap (λ (p : Part). tells p number) d.2
    ∙ or_right (nat_le 1 number && nat_le number old.prefix) _ (ap is_some (put_same old.early number rows)))
    (λ m other. ap (λ (p : Part). tells p m) d.2 ∙ ap (λ o. (nat_le 1 m && nat_le m old.prefix) || is_some o)
    (put_else old.early number rows m other))
delivered_tells honest query q old new number rows (Folded upto) is low d =
    let next : number ≡ old.prefix + 1 = d.0 in
    let after : (m : ℕ) → tells new m ≡ tells_of old.prefix ((old.prefix + 1, rows) ∷ old.early) m =
    drains_tells honest q old.prefix old.run ((old.prefix + 1, rows) ∷ old.early) new (next_rising query old rows is) d.2
    in
    told_more (tells new) (tells old) number
    (ap (tells new) next ∙ after (old.prefix + 1) ∙ or_right (nat_le 1 (old.prefix + 1) && nat_le (old.prefix + 1) old.prefix) _
    (ap is_some (at_head (old.prefix + 1) rows old.early)))
    (λ m other. after m ∙ ap (λ o. (nat_le 1 m && nat_le m old.prefix) || is_some o)
    (behind_head m (old.prefix + 1) rows old.early (λ same. other (same ∙ sym next))))

-- ---- parts that are joined

either_some : {X : Type 0} (x y : Option X) → is_some (either x y) ≡ (is_some x || is_some y)
either_some None y = refl
either_some (Some x) y = refl

united_tells : (query : Checked) (l s : Part) (batches : Batches) → IsPartOf query l → IsPartOf query s → s.prefix ≤ l.prefix
    → Unites l.prefix l s batches
    → (m : ℕ) → tells_of l.prefix batches m ≡ (tells l m || tells s m)
united_tells query l s batches is other low united m =
    elim (cases_lt l.prefix m) [
      | inl above ↦
          let out : nat_le m l.prefix ≡ false = grind arith in
          let out_too : nat_le m s.prefix
          ≡ false = elim (cases_lt s.prefix m) [ inl h ↦ grind arith | inr h ↦ absurd (omega (arith, above, h, low)) ] in
          (λ i. (nat_le 1 m && out i) || is_some (united.rows m above i))
          ∙ ap (λ b. (nat_le 1 m && false) || b) (either_some (rows_at l.early m) (rows_at s.early m))
          ∙ parts (nat_le 1 m) (is_some (rows_at l.early m)) (is_some (rows_at s.early m))
          ∙ sym (λ i. ((nat_le 1 m && out i) || is_some (rows_at l.early m)) || ((nat_le 1 m && out_too i) || is_some (rows_at s.early m)))
      | inr within ↦
          elim (cases_lt 0 m) [
            | inl some ↦
                let one : nat_le 1 m ≡ true = grind arith in
                let inside : nat_le m l.prefix ≡ true = grind arith in
                (λ i. (one i && inside i) || is_some (rows_at batches m)) ∙ sym (λ i. ((one i && inside i) || is_some (rows_at l.early m))
                || tells s m)
            | inr none ↦
                let zero_is : nat_le 1 m ≡ false = grind arith in
                let no_batch : rows_at batches m ≡ None = none_found (λ (e : ℕ × List (List ℕ)). l.prefix < e.0) batches m united.above
                (λ rows behind. omega (arith, behind, within)) in
                let no_early : rows_at l.early m ≡ None = none_found (IsEarly (kinds query.columns) l.prefix) l.early m is.early
                (λ rows e. let behind = e.behind in omega (arith, behind, none)) in
                let no_other : rows_at s.early m ≡ None = none_found (IsEarly (kinds query.columns) s.prefix) s.early m other.early
                (λ rows e. let behind = e.behind in omega (arith, behind, none)) in
                (λ i. (zero_is i && nat_le m l.prefix) || is_some (no_batch i))
                ∙ sym (λ i. ((zero_is i && nat_le m l.prefix) || is_some (no_early i))
                || ((zero_is i && nat_le m s.prefix) || is_some (no_other i)))
          ]
    ]
  where
    parts : (c x y : Bool) → ((c && false) || (x || y)) ≡ (((c && false) || x) || ((c && false) || y))
    parts true x y = refl
    parts false x y = refl

pub joined_tells : (honest : Bool) (query : Checked) (q : Query) (a b new : Part) → IsPartOf query a → IsPartOf query b
    → Joins honest q a b new → (m : ℕ) → tells new m ≡ (tells a m || tells b m)
joined_tells honest query q a b new is_a is_b joins m =
    drains_tells honest q (longer a b).prefix (longer a b).run joins.behind new joins.united.rising joins.drained m
    ∙ elim (nat_lt a.prefix b.prefix) as (λ t. nat_lt a.prefix b.prefix ≡ t → Unites (if t then b else a).prefix (if t then b else a) (if t
    then a else b) joins.behind
    → tells_of (if t then b else a).prefix joins.behind m ≡ (tells a m || tells b m)) [
      | true ↦ λ e united. let low : a.prefix ≤ b.prefix = grind arith in united_tells query b a joins.behind is_b is_a low united m
          ∙ or_comm (tells b m) (tells a m)
      | false ↦ λ e united. let low : b.prefix ≤ a.prefix = grind arith in united_tells query a b joins.behind is_a is_b low united m
    ] refl joins.united
