-- What goes out of parts: that it is held, what it tells, and that it fits.
use Rattle.std.specs.Prelude.{◌≡◌, ◌≢◌, refl, ℕ, ◌<◌, ◌≤◌, ◌⊎◌, ◌↔◌, ◌||◌, ◌&&◌, not, nat_le, nat_lt, nat_eq, Bool, true, false}
use Rattle.std.specs.Prelude.{cond, List, [], ◌∷◌, ◌++◌, filter, length, Option, Some, None, unwrap_or, if◌then◌else◌}
use Rattle.std.proofs.Common.{◌∙◌, sym, ap, subst, inl, inr, arith, append_assoc}
use Rattle.std.proofs.lemmas.Bool.{true≢false, cases_lt, and_right}
use Rattle.std.proofs.lemmas.Map.Entries.{lookup-filter-keys}
use Rattle.std.specs.List.{AllByRecursion}
use Rattle.std.specs.List.Sorted.{IsStrictlySortedBy}
use Rattle.std.specs.Option.{is_some}
use Rattle.std.specs.Ordering.{eq_by_cmp, nat_cmp}
use Rattle.std.specs.declared.cmp.Ordering.TheVariants.{Less}
use Rattle.grouping_model.specs.EarlyLaws.{filter_rises}
use Rattle.grouping_model.specs.World.{IsUnbroken}
use Rattle.grouping_model.specs.KnowledgeLaws.{same_knowledge}
use Rattle.grouping_model.specs.Lemmas.PrefixLaws.{prefix_unbroken}
use Rattle.list_laws.specs.Each.{each_append, each_weaker}
use Rattle.origin_prefix.specs.Parts.{Batches, is_nothing}
use Rattle.origin_prefix.specs.Lemmas.Lists.{is_same, same_or_other}
use Rattle.origin_prefix.specs.Lemmas.ByNumber.{numbers, at, at_head, behind_head, first_alone, found_holds, rising_rest, above_first}
use Rattle.replica_merge.specs.Lacking.{IsWithin, is_lacked, lacked, lacked_early, lacked_part, if_some, lacked_parts}
use Rattle.replica_merge.specs.Lemmas.DeliveredLaws.{empty_part, part_is}
use Rattle.replica_merge.specs.Lemmas.EmptyLaws.{empty_fits}
use Rattle.replica_merge.specs.Lemmas.ToldLaws.{told_is, prefix_told, part_gap, some_told}
use Rattle.replica_merge.specs.Lemmas.Words.{World, Knowledge, knows, prefix, kinds, meaning, Checked, Part, Parts, empty, rows_at, tells}
use Rattle.replica_merge.specs.Lemmas.Words.{Held, IsEarly, IsPartOf, FitsOrigin, IsHeldPart, AreHeldParts, part_at, part_of, told, Fits}
use Rattle.replica_merge.proofs.LackingLaws.{first_true, second_true, knows_lacked, none_lacked, unbroken_is}

-- ---- entries that are kept by their numbers

module _ {X : Type 0} (t : ℕ → Bool) where
  numbers_kept : (es : List (ℕ × X)) → numbers (filter (λ (e : ℕ × X). t e.0) es) ≡ filter t (numbers es)
  numbers_kept [] = refl
  numbers_kept (e ∷ es) =
      elim (t e.0) as (λ b. numbers (cond b (e ∷ filter (λ (f : ℕ × X). t f.0) es) (filter (λ (f : ℕ × X). t f.0) es))
      ≡ cond b (e.0 ∷ filter t (numbers es)) (filter t (numbers es))) [
        | true ↦ ap (λ ns. e.0 ∷ ns) (numbers_kept es)
        | false ↦ numbers_kept es
      ]

  kept_rises : (es : List (ℕ × X)) → IsStrictlySortedBy nat_cmp (numbers es)
      → IsStrictlySortedBy nat_cmp (numbers (filter (λ (e : ℕ × X). t e.0) es))
  kept_rises es rising = subst (IsStrictlySortedBy nat_cmp) (sym (numbers_kept es)) (filter_rises nat_cmp t (numbers es) rising)

  each_kept : (P : ℕ × X → Type 0) (es : List (ℕ × X)) → AllByRecursion P es → AllByRecursion P (filter (λ (e : ℕ × X). t e.0) es)
  each_kept P [] all = tt
  each_kept P (e ∷ es) all =
      elim (t e.0) as (λ b. AllByRecursion P (cond b (e ∷ filter (λ (f : ℕ × X). t f.0) es) (filter (λ (f : ℕ × X). t f.0) es))) [
        | true ↦ (all.0, each_kept P es all.1)
        | false ↦ each_kept P es all.1
      ]

  found_kept : (es : List (ℕ × X)) (n : ℕ) → at (filter (λ (e : ℕ × X). t e.0) es) n ≡ cond (t n) (at es n) None
  found_kept es n = lookup-filter-keys (eq_by_cmp nat_cmp n) t (t n) (λ k e. ap t (sym (is_same n k e))) es

  was_there : (es : List (ℕ × X)) (n : ℕ) (x : X) → at (filter (λ (e : ℕ × X). t e.0) es) n ≡ Some x → at es n ≡ Some x
  was_there es n x found =
      elim (t n) as (λ b. cond b (at es n) None ≡ Some x → at es n ≡ Some x) [
        | true ↦ λ e. e
        | false ↦ λ e. absurd (true≢false (sym (ap is_some e)))
      ] (sym (found_kept es n) ∙ found)

-- ---- one part

module _ (known : Knowledge) (origin : ℕ) where
  abbrev unknown : ℕ → Bool
  unknown n = not (knows known (origin, n))

  -- a claim of what goes out of a part, by whether its prefix is longer
  by_prefix : (P : Part → Type 0) (p : Part) → (nat_lt (prefix known origin) p.prefix ≡ true → P (record p {
    early = lacked_early known
        origin p.early;
  }))
      → (nat_lt (prefix known origin) p.prefix ≡ false → P (record { prefix = 0; run = []; early = lacked_early known origin p.early }))
      → P (lacked_part known (origin, p))
  by_prefix P p long short =
      elim (nat_lt (prefix known origin) p.prefix) as (λ b. nat_lt (prefix known origin) p.prefix ≡ b
      → P (if b then record p { early = lacked_early known origin p.early } else record {
        prefix = 0;
        run = [];
        early
            = lacked_early known origin p.early;
      })) [ true ↦ long | false ↦ short ] refl

  -- it is a part of the query
  pub lacked_is : (query : Checked) (p : Part) → IsPartOf query p → IsPartOf query (lacked_part known (origin, p))
  lacked_is query p is =
      by_prefix (IsPartOf query) p
      (λ _. record {
        within = is.within;
        run = is.run;
        few = is.few;
        rising = kept_rises (λ n. not (knows known (origin, n))) p.early is.rising;
        early = each_kept (λ n. not (knows known (origin, n))) (IsEarly (kinds query.columns) p.prefix) p.early is.early;
      })
      (λ _.
      let nothing : IsPartOf query empty = empty_part query in
      record {
        within = nothing.within;
        run = nothing.run;
        few = nothing.few;
        rising = kept_rises (λ n. not (knows known (origin, n))) p.early is.rising;
        early = each_kept (λ n. not (knows known (origin, n))) (IsEarly (kinds query.columns) 0) p.early
            (each_weaker (IsEarly (kinds query.columns) p.prefix) (IsEarly (kinds query.columns) 0)
            (λ b early. record {
              behind = let low = early.behind in omega (arith, low);
              within = early.within;
              rows = early.rows;
            }) p.early is.early);
      })

  -- where nothing goes out, it is nothing
  pub lacked_nothing : (p : Part) → is_nothing (lacked_part known (origin, p)) ≡ true → lacked_part known (origin, p) ≡ empty
  lacked_nothing p =
      by_prefix (λ (q : Part). is_nothing q ≡ true → q ≡ empty) p
      (λ long none. absurd (no_longer p.prefix (prefix known origin) (nat_eq (length (lacked_early known origin p.early)) 0) long none))
      (λ _ none. λ i. record { prefix = 0; run = []; early = no_batches (lacked_early known origin p.early) none i })
    where
      no_longer : (n k : ℕ) (b : Bool) → nat_lt k n ≡ true → (nat_eq n 0 && b) ≡ true → ⊥
      no_longer n k b long none =
          elim (nat_eq n 0) as (λ t. nat_eq n 0 ≡ t → (t && b) ≡ true → ⊥) [
            | true ↦ λ e none. let zero_is : n ≡ 0 = grind arith in let low : k < n = grind arith in absurd (omega (arith, zero_is, low))
            | false ↦ λ e none. true≢false (sym none)
          ] refl none

      no_batches : (batches : Batches) → (nat_eq 0 0 && nat_eq (length batches) 0) ≡ true → batches ≡ []
      no_batches [] e = refl
      no_batches (b ∷ batches) e =
          let some : nat_eq (length (b ∷ batches)) 0 ≡ false = grind arith in
          absurd (true≢false (sym e ∙ and_right (nat_eq 0 0) (nat_eq (length (b ∷ batches)) 0) some))

  -- nothing goes out of nothing
  pub lacked_empty : lacked_part known (origin, empty) ≡ empty
  lacked_empty =
      by_prefix (λ (q : Part). q ≡ empty) empty
      (λ long. absurd (let low : prefix known origin < 0 = grind arith in omega (arith, low)))
      (λ _. refl)

  -- it fits a world that the part fits
  pub lacked_fits : (query : Checked) (world : World) (p : Part) → FitsOrigin (meaning query) world origin p
      → FitsOrigin (meaning query) world origin (lacked_part known (origin, p))
  lacked_fits query world p fits =
      by_prefix (FitsOrigin (meaning query) world origin) p
      (λ _. record {
        there = fits.there;
        run = fits.run;
        early = λ n rows found. fits.early n rows (was_there (λ m. not (knows known (origin, m))) p.early n rows found);
      })
      (λ _. record {
        there = λ n low high. absurd (omega (arith, low, high));
        run = (empty_fits query world origin).run;
        early = λ n rows found. fits.early n rows (was_there (λ m. not (knows known (origin, m))) p.early n rows found);
      })

  -- it tells what the part tells and is lacked
  pub lacked_tells : (query : Checked) (own : Knowledge) (p : Part) → IsPartOf query p → prefix own origin ≡ p.prefix → (n : ℕ)
      → tells (lacked_part known (origin, p)) n ≡ (tells p n && is_lacked own known (origin, n))
  lacked_tells query own p is upto n =
      by_prefix (λ (q : Part). tells q n ≡ (tells p n && is_lacked own known (origin, n))) p
      (λ long.
      ap (λ found. (nat_le 1 n && nat_le n p.prefix) || is_some found) early_found
      ∙ ap (λ b. (nat_le 1 n && nat_le n p.prefix) || b) (some_if (unknown n) (rows_at p.early n))
      ∙ long_tells (nat_le 1 n) (nat_le n p.prefix) (is_some (rows_at p.early n)) (knows known (origin, n)) not_within
      ∙ (λ i. tells p n && (not (knows known (origin, n)) || (nat_le n (sym upto i) && (sym long ∙ ap (nat_lt (prefix known origin)) (sym upto)) i))))
      (λ short.
      ap (λ found. (nat_le 1 n && nat_le n 0) || is_some found) early_found
      ∙ ap (λ b. (nat_le 1 n && nat_le n 0) || b) (some_if (unknown n) (rows_at p.early n))
      ∙ short_tells (nat_le 1 n) (nat_le n p.prefix) (nat_le n 0) (nat_le n (prefix own origin)) (is_some (rows_at p.early n))
      (knows known (origin, n)) (none_below n) (told_below short)
      ∙ (λ i. tells p n && (not (knows known (origin, n)) || (nat_le n (prefix own origin)
      && (sym short ∙ ap (nat_lt (prefix known origin)) (sym upto)) i))))
    where
      early_found : rows_at (lacked_early known origin p.early) n ≡ cond (unknown n) (rows_at p.early n) None
      early_found = found_kept (λ m. not (knows known (origin, m))) p.early n

      some_if : (b : Bool) (found : Option (List (List ℕ))) → is_some (cond b found None) ≡ (b && is_some found)
      some_if true found = refl
      some_if false found = refl

      -- an early number is not within the prefix
      not_within : is_some (rows_at p.early n) ≡ true → nat_le n p.prefix ≡ false
      not_within = go (rows_at p.early n) refl
        where
          go : (found : Option (List (List ℕ))) → rows_at p.early n ≡ found → is_some found ≡ true → nat_le n p.prefix ≡ false
          go None e there = absurd (true≢false (sym there))
          go (Some rows) e there =
              let gap = (found_holds (IsEarly (kinds query.columns) p.prefix) p.early n rows is.early e).behind in
              let above : p.prefix < n = omega (arith, gap) in
              grind arith

      long_tells : (first within some known_is : Bool) → (some ≡ true → within ≡ false)
          → ((first && within) || (not known_is && some)) ≡ (((first && within) || some) && (not known_is || (within && true)))
      long_tells true true some true f = refl
      long_tells true true some false f = refl
      long_tells true false true true f = refl
      long_tells true false true false f = refl
      long_tells true false false true f = refl
      long_tells true false false false f = refl
      long_tells false true true k f = absurd (true≢false (f refl))
      long_tells false true false true f = refl
      long_tells false true false false f = refl
      long_tells false false true true f = refl
      long_tells false false true false f = refl
      long_tells false false false true f = refl
      long_tells false false false false f = refl

      none_below : (m : ℕ) → (nat_le 1 m && nat_le m 0) ≡ false
      none_below m = elim (cases_lt 0 m) [
        | inl above ↦ let one : nat_le m 0 ≡ false = grind arith in and_right (nat_le 1 m) (nat_le m 0) one
        | inr below ↦ let one : nat_le 1 m ≡ false = grind arith in ap (λ b. b && nat_le m 0) one
      ]

      -- a shorter prefix is known
      told_below : nat_lt (prefix known origin) p.prefix ≡ false → (nat_le 1 n && nat_le n p.prefix) ≡ true → knows known (origin, n) ≡ true
      told_below short within =
          let upper : p.prefix ≤ prefix known origin = grind arith in
          prefix_unbroken known origin n (let one : nat_le 1 n ≡ true = first_true (nat_le 1 n) (nat_le n p.prefix) within in grind arith)
          (let two : nat_le n p.prefix ≡ true = second_true (nat_le 1 n) (nat_le n p.prefix) within in
          let high : n ≤ p.prefix = grind arith in omega (arith, upper, high))

      short_tells : (first within zero_within whole some known_is : Bool) → (first && zero_within) ≡ false
          → ((first && within) ≡ true → known_is ≡ true)
          → ((first && zero_within) || (not known_is && some)) ≡ (((first && within) || some) && (not known_is || (whole && false)))
      short_tells first within zw whole some k none f =
          ap (λ b. b || (not k && some)) none ∙ go (first && within) whole some k f
        where
          go : (w whole some k : Bool) → (w ≡ true → k ≡ true) → (not k && some) ≡ ((w || some) && (not k || (whole && false)))
          go true true true true f = refl
          go true true false true f = refl
          go true false true true f = refl
          go true false false true f = refl
          go true whole some false f = absurd (true≢false (sym (f refl)))
          go false true true true f = refl
          go false true false true f = refl
          go false false true true f = refl
          go false false false true f = refl
          go false true true false f = refl
          go false true false false f = refl
          go false false true false f = refl
          go false false false false f = refl

-- ---- all parts

-- what holds of a part that holds something
each_if_some : (P : ℕ × Part → Type 0) (origin : ℕ) (p : Part) → (is_nothing p ≡ false → P (origin, p)) → AllByRecursion P (if_some origin p)
each_if_some P origin p holds =
    elim (is_nothing p) as (λ b. is_nothing p ≡ b → AllByRecursion P (if b then [] else (origin, p) ∷ [])) [
      | true ↦ λ e. tt
      | false ↦ λ e. (holds e, tt)
    ] refl

-- it tells something
something : (p : Part) → is_nothing p ≡ false → (0 < p.prefix) ⊎ (p.early ≢ [])
something p some = elim (cases_lt 0 p.prefix) [
  | inl low ↦ inl low
  | inr none ↦ inr (λ e.
      let one : nat_eq p.prefix 0 ≡ true = grind arith in
      true≢false (sym (λ i. one i && nat_eq (length (e i)) 0) ∙ some))
]

-- a number below those of entries in order
rising_more : (n : ℕ) (p : Part) (parts : Parts) → AllByRecursion (λ (e : ℕ × Part). n < e.0) parts
    → IsStrictlySortedBy nat_cmp (numbers parts) → IsStrictlySortedBy nat_cmp (numbers ((n, p) ∷ parts))
unfolding IsStrictlySortedBy
rising_more n p parts above rising = (go parts above, rising)
  where
    less : (m : ℕ) → n < m → nat_cmp n m ≡ Less
    less m low = grind arith

    go : (es : Parts) → AllByRecursion (λ (e : ℕ × Part). n < e.0) es → AllByRecursion (λ m. nat_cmp n m ≡ Less) (numbers es)
    go [] all = tt
    go (e ∷ es) all = (less e.0 all.0, go es all.1)

module _ (known : Knowledge) where
  lacked_above : (n : ℕ) (parts : Parts) → AllByRecursion (λ (e : ℕ × Part). n < e.0) parts
      → AllByRecursion (λ (e : ℕ × Part). n < e.0) (lacked_parts known parts)
  lacked_above n [] all = tt
  lacked_above n (held ∷ parts) all =
      each_append (λ (e : ℕ × Part). n < e.0) (if_some held.0 (lacked_part known held)) (lacked_parts known parts)
      (each_if_some (λ (e : ℕ × Part). n < e.0) held.0 (lacked_part known held) (λ _. all.0)) (lacked_above n parts all.1)

  pub lacked_rise : (parts : Parts) → IsStrictlySortedBy nat_cmp (numbers parts)
      → IsStrictlySortedBy nat_cmp (numbers (lacked_parts known parts))
  lacked_rise [] rising = rising
  lacked_rise (held ∷ parts) rising =
      let rest : IsStrictlySortedBy nat_cmp (numbers (lacked_parts known parts)) = lacked_rise parts (rising_rest held parts rising) in
      elim (is_nothing (lacked_part known held)) as (λ b. IsStrictlySortedBy nat_cmp (numbers ((if b then [] else (
        held.0,
        lacked_part known
            held,
      ) ∷ []) ++ lacked_parts known parts))) [
        | true ↦ rest
        | false ↦ rising_more held.0 (lacked_part known held) (lacked_parts known parts) (lacked_above held.0 parts (above_first held.0 held.1
            parts rising)) rest
      ]

  -- what goes out is held of the query
  pub lacked_held : (query : Checked) (parts : Parts) → AreHeldParts query parts → AreHeldParts query (lacked_parts known parts)
  lacked_held query parts held = record { rising = lacked_rise parts held.rising; each = go parts held.each }
    where
      go : (ps : Parts) → AllByRecursion (IsHeldPart query) ps → AllByRecursion (IsHeldPart query) (lacked_parts known ps)
      go [] all = tt
      go (p ∷ ps) all =
          each_append (IsHeldPart query) (if_some p.0 (lacked_part known p)) (lacked_parts known ps)
          (each_if_some (IsHeldPart query) p.0 (lacked_part known p) (λ some. record {
            within = all.0.within;
            part = lacked_is known p.0 query p.1 all.0.part;
            some = something (lacked_part known p) some;
          })) (go ps all.1)

  -- of each origin, what goes out of its part
  of_more : (held : ℕ × Part) (parts : Parts) → IsStrictlySortedBy nat_cmp (numbers (held ∷ parts)) → (o : ℕ)
      → part_of (lacked_parts known parts) o ≡ lacked_part known (o, part_of parts o)
      → part_of (lacked_parts known (held ∷ parts)) o ≡ lacked_part known (o, part_of (held ∷ parts) o)
  of_more held parts rising o rest =
      elim (is_nothing (lacked_part known held)) as (λ b. is_nothing (lacked_part known held) ≡ b
      → part_of ((if b then [] else (held.0, lacked_part known held) ∷ []) ++ lacked_parts known parts) o ≡ lacked_part known (o, part_of (held ∷ parts) o)) [
        | true ↦ λ none. elim (same_or_other o held.0) [
          | inl same ↦ rest ∙ ap (λ found. lacked_part known (o, unwrap_or found empty)) (ap (part_at parts) same
              ∙ first_alone held.0 held.1 parts rising)
              ∙ lacked_empty known o ∙ sym (lacked_nothing known held.0 held.1 none) ∙ sym (here same)
          | inr other ↦ rest ∙ sym (behind other)
        ]
        | false ↦ λ some. elim (same_or_other o held.0) [
          | inl same ↦ ap (λ found. unwrap_or found empty) (ap (part_at ((held.0, lacked_part known held) ∷ lacked_parts known parts)) same
              ∙ at_head held.0 (lacked_part known held) (lacked_parts known parts)) ∙ sym (here same)
          | inr other ↦ ap (λ found. unwrap_or found empty) (behind_head o held.0 (lacked_part known held) (lacked_parts known parts) other) ∙ rest
              ∙ sym (behind other)
        ]
      ] refl
    where
      here : o ≡ held.0 → lacked_part known (o, part_of (held ∷ parts) o) ≡ lacked_part known held
      here same = λ i. lacked_part known (same i, unwrap_or ((ap (part_at (held ∷ parts)) same ∙ at_head held.0 held.1 parts) i) empty)

      behind : o ≢ held.0 → lacked_part known (o, part_of (held ∷ parts) o) ≡ lacked_part known (o, part_of parts o)
      behind other = ap (λ found. lacked_part known (o, unwrap_or found empty)) (behind_head o held.0 held.1 parts other)

  pub lacked_of : (parts : Parts) → IsStrictlySortedBy nat_cmp (numbers parts) → (o : ℕ)
      → part_of (lacked_parts known parts) o ≡ lacked_part known (o, part_of parts o)
  lacked_of [] rising o = sym (lacked_empty known o)
  lacked_of (held ∷ parts) rising o = of_more held parts rising o (lacked_of parts (rising_rest held parts rising) o)

  -- what goes out tells what is told and lacked
  pub lacked_told : (query : Checked) (parts : Parts) → AreHeldParts query parts → told (lacked_parts known parts) ≡ lacked (told parts) known
  lacked_told query parts held =
      same_knowledge (told (lacked_parts known parts)) (lacked (told parts) known) (λ batch.
      let o : ℕ = batch.0 in
      let is : IsPartOf query (part_of parts o) = part_is query parts held o in
      told_is (lacked_parts known parts) (lacked_rise parts held.rising) o batch.1
      ∙ ap (λ (p : Part). tells p batch.1) (lacked_of parts held.rising o)
      ∙ lacked_tells known o query (told parts) (part_of parts o) is (prefix_told parts held.rising o (part_gap query (part_of parts o) is))
      batch.1
      ∙ ap (λ b. b && is_lacked (told parts) known batch) (sym (told_is parts held.rising o batch.1))
      ∙ sym (knows_lacked (told parts) known batch))

  -- no part goes out exactly if all that is told is known
  pub none_goes : (query : Checked) (parts : Parts) → AreHeldParts query parts
      → (lacked_parts known parts ≡ []) ↔ IsWithin (told parts) known
  none_goes query parts held = (
    λ none. (none_lacked (told parts) known).0 (λ batch.
        ap (λ k. knows k batch) (sym (lacked_told query parts held)) ∙ ap (λ (ps : Parts). knows (told ps) batch) none),
    λ within. go (lacked_parts known parts) (lacked_held query parts held) (λ batch.
        ap (λ k. knows k batch) (lacked_told query parts held) ∙ (none_lacked (told parts) known).1 within batch),
  )
    where
      go : (ps : Parts) → AreHeldParts query ps → ((batch : ℕ × ℕ) → knows (told ps) batch ≡ false) → ps ≡ []
      go [] are none = refl
      go (p ∷ ps) are none =
          let some = some_told query p.0 p.1 are.each.0 in
          let here : part_of (p ∷ ps) p.0 ≡ p.1 = ap (λ found. unwrap_or found empty) (at_head p.0 p.1 ps) in
          absurd (true≢false (sym some.2 ∙ ap (λ (q : Part). tells q some.0) (sym here) ∙ sym (told_is (p ∷ ps) are.rising p.0 some.0)
          ∙ none (p.0, some.0)))

  -- it fits each world that the parts fit
  pub lacked_fit : (query : Checked) (parts : Parts) → AreHeldParts query parts → (world : World)
      → Fits world (record { query = query; parts = parts }) → Fits world (record { query = query; parts = lacked_parts known parts })
  lacked_fit query parts held world fits o =
      subst (FitsOrigin (meaning query) world o) (sym (lacked_of parts held.rising o)) (lacked_fits known o query world (part_of parts o) (fits o))

-- ---- steps of the code

module _ (known : Knowledge) (origin : ℕ) where
  -- an early batch more
  pub early_more : (n : ℕ) (rows : List (List ℕ)) (old new rest all : Batches) → knows known (origin, n) ≡ false
      → new ≡ old ++ ((n, rows) ∷ []) → old ++ lacked_early known origin ((n, rows) ∷ rest) ≡ all
      → new ++ lacked_early known origin rest ≡ all
  early_more n rows old new rest all e is before =
      ap (λ (those : Batches). those ++ lacked_early known origin rest) is
      ∙ append_assoc old ((n, rows) ∷ []) (lacked_early known origin rest)
      ∙ ap (λ (those : Batches). old ++ those) (sym (ap (λ b. cond (not b) ((n, rows) ∷ lacked_early known origin rest)
      (lacked_early known origin rest)) e))
      ∙ before

  -- or one that is known
  pub early_less : (n : ℕ) (rows : List (List ℕ)) (old rest all : Batches) → knows known (origin, n) ≡ true
      → old ++ lacked_early known origin ((n, rows) ∷ rest) ≡ all → old ++ lacked_early known origin rest ≡ all
  early_less n rows old rest all e before =
      ap (λ (those : Batches). old ++ those) (sym (ap (λ b. cond (not b) ((n, rows) ∷ lacked_early known origin rest)
      (lacked_early known origin rest)) e))
      ∙ before

  -- a part more
  pub parts_more : (p : Part) (old new rest all : Parts) → is_nothing (lacked_part known (origin, p)) ≡ false
      → new ≡ old ++ ((origin, lacked_part known (origin, p)) ∷ []) → old ++ lacked_parts known ((origin, p) ∷ rest) ≡ all
      → new ++ lacked_parts known rest ≡ all
  parts_more p old new rest all e is before =
      ap (λ (those : Parts). those ++ lacked_parts known rest) is
      ∙ append_assoc old ((origin, lacked_part known (origin, p)) ∷ []) (lacked_parts known rest)
      ∙ ap (λ (those : Parts). old ++ those) (sym (ap (λ b. (if b then [] else (origin, lacked_part known (origin, p)) ∷ [])
      ++ lacked_parts known rest) e))
      ∙ before

  -- or one of which nothing goes out
  pub parts_less : (p : Part) (old rest all : Parts) → is_nothing (lacked_part known (origin, p)) ≡ true
      → old ++ lacked_parts known ((origin, p) ∷ rest) ≡ all → old ++ lacked_parts known rest ≡ all
  parts_less p old rest all e before =
      ap (λ (those : Parts). old ++ those) (sym (ap (λ b. (if b then [] else (origin, lacked_part known (origin, p)) ∷ [])
      ++ lacked_parts known rest) e))
      ∙ before

  -- what goes out of a part, if all of its prefix is known, and if not
  pub part_short : (p : Part) (early : Batches) → early ≡ lacked_early known origin p.early → IsUnbroken known origin p.prefix
      → record { prefix = 0; run = []; early = early } ≡ lacked_part known (origin, p)
  part_short p early is all =
      by_prefix known origin (λ (q : Part). record { prefix = 0; run = []; early = early } ≡ q) p
      (λ long. absurd (true≢false (sym long ∙ (unbroken_is known origin p.prefix).0 all)))
      (λ _. λ i. record { prefix = 0; run = []; early = is i })

  pub part_long : (p : Part) (early : Batches) → early ≡ lacked_early known origin p.early → ¬ (IsUnbroken known origin p.prefix)
      → record { prefix = p.prefix; run = p.run; early = early } ≡ lacked_part known (origin, p)
  part_long p early is never =
      by_prefix known origin (λ (q : Part). record { prefix = p.prefix; run = p.run; early = early } ≡ q) p
      (λ _. λ i. record { prefix = p.prefix; run = p.run; early = is i })
      (λ short. absurd (never ((unbroken_is known origin p.prefix).1 short)))

-- ---- the whole

-- what is said of a replica that goes out
pub record GoesOut (own : Held) (known : Knowledge) (delta : Held) : Type 0 where
  pub asked : delta.query ≡ own.query
  pub parts : delta.parts ≡ lacked_parts known own.parts
  pub tells : told delta.parts ≡ lacked (told own.parts) known
  pub none : (delta.parts ≡ []) ↔ IsWithin (told own.parts) known
  pub fits : (world : World) → Fits world own → Fits world delta

pub goes_out : (own : Held) (known : Knowledge) (delta : Held) → AreHeldParts own.query own.parts → delta.query ≡ own.query
    → delta.parts ≡ lacked_parts known own.parts → GoesOut own known delta
goes_out own known delta held asked is =
    let same : record { query = own.query; parts = lacked_parts known own.parts } ≡ delta = λ i. record {
      query = sym asked i;
      parts = sym is i;
    } in
    subst (GoesOut own known) same (record {
      asked = refl;
      parts = refl;
      tells = lacked_told known own.query own.parts held;
      none = none_goes known own.query own.parts held;
      fits = lacked_fit known own.query own.parts held;
    })
