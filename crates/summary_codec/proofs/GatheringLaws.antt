-- Batches put together behind others.
use Rattle.std.proofs.Common.{◌≡◌, refl, ℕ, suc, ◌+◌, ◌-◌, ◌<◌, ◌≤◌, List, [], ◌∷◌, ◌++◌, Some, None, map, length, take, drop, sym, ap}
use Rattle.std.proofs.Common.{◌∙◌, subst, arith, append-nil, append_assoc}
use Rattle.std.specs.List.{flat_map, slice_get}
use Rattle.std.specs.Option.{is_some}
use Rattle.std.specs.Prelude.{option_map, slice_index_or}
use Rattle.std.specs.Cmp.{nat_cmp_total}
use Rattle.std.specs.Ordering.{nat_cmp}
use Rattle.std.specs.List.Sorted.{IsStrictlySortedBy}
use Rattle.std.proofs.lemmas.Bool.{true≢false}
use Rattle.std.proofs.lemmas.List.{drop_more, length-append, length-map, map-append, take-append-drop, take_more}
use Rattle.std.proofs.lemmas.List.Folds.{length-flat_map-take}
use Rattle.std.proofs.lemmas.Option.{slice_get-map, slice_get_within}
use Rattle.std.proofs.lemmas.Grind.{flat_map-append}
use Rattle.std.proofs.Math.Seq.{drop-append_seam, take-append_seam}
use Rattle.summary_codec.specs.Reading.{IsNext}
use Rattle.summary_codec.specs.Lemmas.RisingLaws.{first_above, rises_next}
use Rattle.std.proofs.Common.{◌⊎◌, Bool, true, false, cond, Option, inl, inr}
use Rattle.std.specs.List.{AllByRecursion}
use Rattle.std.specs.Ordering.{eq_by_cmp}
use Rattle.std.specs.declared.cmp.Ordering.TheVariants.{Less}
use Rattle.origin_prefix.specs.Joins.{either}
use Rattle.origin_prefix.specs.Parts.{Batches, rows_at}
use Rattle.origin_prefix.specs.Lemmas.ByNumber.{above_first, at_head, behind_head, rising_rest, same_entries}
use Rattle.origin_prefix.specs.Lemmas.Lists.{is_itself, is_same}
use Rattle.summary_codec.specs.Gathered.{AreSomeOf, Rise}

-- ---- what is last

module _ {A B : Type 0} (f : A → B) where
  -- what is last behind others is last
  last_appended : (xs ys : List A) (y : A) → slice_get ys (length ys - 1) ≡ Some y
      → slice_get (xs ++ ys) (length (xs ++ ys) - 1) ≡ Some y
  last_appended [] ys y there = there
  last_appended (x ∷ xs) ys y there =
      let low : length ys - 1 < length ys = slice_get_within ys (length ys - 1) y there in
      let long : length (xs ++ ys) ≡ length xs + length ys = length-append xs ys in
      let step : length (x ∷ (xs ++ ys)) - 1 ≡ suc (length (xs ++ ys) - 1) = omega (arith, low, long) in
      ap (slice_get (x ∷ (xs ++ ys))) step ∙ last_appended xs ys y there

  mapped : (xs : List A) (y : A) → slice_get xs (length xs - 1) ≡ Some y → Some (f y) ≡ slice_get (map f xs) (length (map f xs) - 1)
  mapped xs y there =
      sym (ap (λ n. slice_get (map f xs) (n - 1)) (length-map xs f) ∙ slice_get-map f xs (length xs - 1) ∙ ap (option_map f) there)

  pub last_of_both : (xs ys zs : List A) (y : A) → xs ++ ys ≡ zs → slice_get ys (length ys - 1) ≡ Some y
      → Some (f y) ≡ slice_get (map f zs) (length (map f zs) - 1)
  last_of_both xs ys zs y both there =
      mapped zs y (subst (λ l. slice_get l (length l - 1) ≡ Some y) both (last_appended xs ys y there))

  none_there : (ys : List A) → None ≡ slice_get ys (length ys - 1) → ys ≡ []
  none_there [] none = refl
  none_there (y ∷ ys) none = absurd (no y ys none)
    where
      no : (y : A) (ys : List A) → None ≡ slice_get (y ∷ ys) (length (y ∷ ys) - 1) → ⊥
      no y [] e = true≢false (sym (ap is_some e))
      no y (z ∷ zs) e = no z zs (e ∙ ap (slice_get (y ∷ z ∷ zs)) (step y z zs))
        where
          step : (y z : A) (zs : List A) → length (y ∷ z ∷ zs) - 1 ≡ suc (length (z ∷ zs) - 1)
          step y z zs = omega arith

  pub last_of_first : (xs ys zs : List A) (x : A) → xs ++ ys ≡ zs → None ≡ slice_get ys (length ys - 1)
      → slice_get xs (length xs - 1) ≡ Some x → Some (f x) ≡ slice_get (map f zs) (length (map f zs) - 1)
  last_of_first xs ys zs x both none there =
      mapped zs x (subst (λ l. slice_get l (length l - 1) ≡ Some x)
      (sym (ap (λ l. xs ++ l) (none_there ys none) ∙ append-nil xs) ∙ both) there)

-- ---- batch after batch

abbrev Batch : Type 0
Batch = ℕ × List (List ℕ)

abbrev rows_in : List Batch → List (List ℕ)
rows_in batches = flat_map (λ (batch : Batch). batch.1) batches

abbrev numbers_of : List Batch → List ℕ
numbers_of batches = map (λ (batch : Batch). batch.0) batches

-- where all rise, one of them is found
found_there : (xs : Batches) (b : Batch) (ys : Batches) → Rise (xs ++ b ∷ ys) → rows_at (xs ++ b ∷ ys) b.0 ≡ Some b.1
found_there [] b ys rise = at_head b.0 b.1 ys
found_there (x ∷ xs) b ys rise =
    let above : x.0 < b.0 = first_above (λ (e : Batch). x.0 < e.0) xs b ys (above_first x.0 x.1 (xs ++ b ∷ ys) rise) in
    behind_head b.0 x.0 x.1 (xs ++ b ∷ ys) (λ same. omega (arith, above, same))
    ∙ found_there xs b ys (rising_rest x (xs ++ b ∷ ys) rise)

-- what is found among both is found among one of them
in_either : (xs ys : Batches) (n : ℕ) → is_some (rows_at (xs ++ ys) n) ≡ true
    → (is_some (rows_at xs n) ≡ true) ⊎ (is_some (rows_at ys n) ≡ true)
in_either [] ys n there = inr there
in_either (x ∷ xs) ys n there =
    elim (eq_by_cmp nat_cmp n x.0) as (λ b. is_some (cond b (Some x.1) (rows_at (xs ++ ys) n)) ≡ true
    → (is_some (cond b (Some x.1) (rows_at xs n)) ≡ true) ⊎ (is_some (rows_at ys n) ≡ true)) [
      | true ↦ λ there. inl refl
      | false ↦ λ there. in_either xs ys n there
    ] there

module _ (batches : List Batch) (i : ℕ) (batch : Batch) (low : i < length batches) (is : batch ≡ slice_index_or batches i batch) where
  -- those before it, it, and those behind it
  around : take i batches ++ batch ∷ drop (i + 1) batches ≡ batches
  around =
      ap (λ (b : Batch). take i batches ++ b ∷ drop (i + 1) batches) is
      ∙ ap (λ (l : List Batch). take i batches ++ l) (sym (drop_more batches i batch low))
      ∙ take-append-drop i batches

  pub one_more : take i batches ++ batch ∷ [] ≡ take (i + 1) batches
  one_more = ap (λ (b : Batch). take i batches ++ b ∷ []) is ∙ sym (take_more batches i batch low)

  -- its rows lie behind those of the ones before it
  pub there : length (rows_in (take i batches)) + length batch.1 ≤ length (rows_in batches)
  there = subst (λ (b : Batch). length (rows_in (take i batches)) + length b.1 ≤ length (rows_in batches)) (sym is)
      (length-flat_map-take (λ (b : Batch). b.1) batches i batch low)

  pub its_rows : take (length batch.1) (drop (length (rows_in (take i batches))) (rows_in batches)) ≡ batch.1
  its_rows =
      ap (λ (l : List (List ℕ)). take (length batch.1) (drop (length (rows_in (take i batches))) l)) whole
      ∙ ap (take (length batch.1)) (drop-append_seam (rows_in (take i batches)) (batch.1 ++ rows_in (drop (i + 1) batches)))
      ∙ take-append_seam batch.1 (rows_in (drop (i + 1) batches))
    where
      whole : rows_in batches ≡ rows_in (take i batches) ++ (batch.1 ++ rows_in (drop (i + 1) batches))
      whole = ap rows_in (sym around) ∙ flat_map-append (λ (b : Batch). b.1) (take i batches) (batch ∷ drop (i + 1) batches)

  pub counted : length (rows_in (take i batches)) + length batch.1 ≡ length (rows_in (take (i + 1) batches))
  counted =
      sym (ap (λ (l : List Batch). length (rows_in l)) (sym one_more)
      ∙ ap length (flat_map-append (λ (b : Batch). b.1) (take i batches) (batch ∷ []))
      ∙ length-append (rows_in (take i batches)) (batch.1 ++ [])
      ∙ ap (λ (l : List (List ℕ)). length (rows_in (take i batches)) + length l) (append-nil batch.1))

  -- where all rise, it is found
  pub in_all : (old : Batches) → Rise (old ++ batches) → rows_at (old ++ batches) batch.0 ≡ Some batch.1
  in_all old rise =
      subst (λ (l : Batches). rows_at l batch.0 ≡ Some batch.1) whole
      (found_there (old ++ take i batches) batch (drop (i + 1) batches) (subst Rise (sym whole) rise))
    where
      whole : (old ++ take i batches) ++ batch ∷ drop (i + 1) batches ≡ old ++ batches
      whole = append_assoc old (take i batches) (batch ∷ drop (i + 1) batches) ∙ ap (λ (l : Batches). old ++ l) around

-- ---- batches among others

-- a batch was put among others, unless there is one of its number
module _ (es new : Batches) (batch : Batch) (put : (n : ℕ) → rows_at new n
    ≡ either (rows_at es n) (cond (eq_by_cmp nat_cmp batch.0 n) (Some batch.1) None)) where
  pub some_more : (all : Batches) → rows_at all batch.0 ≡ Some batch.1 → Rise new → AreSomeOf all es → AreSomeOf all new
  some_more all there rise some = record { rise = rise; each = λ n rows found. go n rows (rows_at es n) refl (sym (put n) ∙ found) }
    where
      put_there : (n : ℕ) (rows : List (List ℕ)) (b : Bool) → eq_by_cmp nat_cmp batch.0 n ≡ b → cond b (Some batch.1) None ≡ Some rows
          → rows_at all n ≡ Some rows
      put_there n rows true same found = ap (rows_at all) (sym (is_same batch.0 n same)) ∙ there ∙ found
      put_there n rows false other found = absurd (true≢false (sym (ap is_some found)))

      go : (n : ℕ) (rows : List (List ℕ)) (had : Option (List (List ℕ))) → rows_at es n ≡ had
          → either had (cond (eq_by_cmp nat_cmp batch.0 n) (Some batch.1) None) ≡ Some rows → rows_at all n ≡ Some rows
      go n rows None none found = put_there n rows (eq_by_cmp nat_cmp batch.0 n) refl found
      go n rows (Some had) is found = some.each n rows (is ∙ found)

  pub had_more : (n : ℕ) → is_some (rows_at es n) ≡ true → is_some (rows_at new n) ≡ true
  had_more n had = ap is_some (put n) ∙ go (rows_at es n) had
    where
      go : (x : Option (List (List ℕ))) → is_some x ≡ true
          → is_some (either x (cond (eq_by_cmp nat_cmp batch.0 n) (Some batch.1) None)) ≡ true
      go None none = absurd (true≢false (sym none))
      go (Some x) is = refl

  its_own : is_some (rows_at new batch.0) ≡ true
  its_own = ap is_some (put batch.0 ∙ ap (λ b. either (rows_at es batch.0) (cond b (Some batch.1) None)) (is_itself batch.0))
      ∙ go (rows_at es batch.0)
    where
      go : (x : Option (List (List ℕ))) → is_some (either x (Some batch.1)) ≡ true
      go None = refl
      go (Some x) = refl

  pub each_more : (before : Batches) → ((n : ℕ) → is_some (rows_at before n) ≡ true → is_some (rows_at es n) ≡ true)
      → (n : ℕ) → is_some (rows_at (before ++ batch ∷ []) n) ≡ true → is_some (rows_at new n) ≡ true
  each_more before all n there = elim (in_either before (batch ∷ []) n there) [
    | inl had ↦ had_more n (all n had)
    | inr own ↦ subst (λ m. is_some (rows_at new m) ≡ true) (sym (own_number (eq_by_cmp nat_cmp n batch.0) refl own)) its_own
  ]
    where
      own_number : (b : Bool) → eq_by_cmp nat_cmp n batch.0 ≡ b → is_some (cond b (Some batch.1) None) ≡ true → n ≡ batch.0
      own_number true same there = is_same n batch.0 same
      own_number false other there = absurd (true≢false (sym there))

-- to begin with, the others are some of all
pub old_are_some : (old batches : Batches) → Rise (old ++ batches) → AreSomeOf (old ++ batches) old
unfolding IsStrictlySortedBy
old_are_some old batches rise = record { rise = front old rise; each = found old }
  where
    all_front : (n : ℕ) (xs : Batches) → AllByRecursion (λ m. nat_cmp n m ≡ Less) (numbers_of (xs ++ batches))
        → AllByRecursion (λ m. nat_cmp n m ≡ Less) (numbers_of xs)
    all_front n [] all = tt
    all_front n (x ∷ xs) all = (all.0, all_front n xs all.1)

    front : (xs : Batches) → Rise (xs ++ batches) → Rise xs
    front [] rise = tt
    front (x ∷ xs) rise = (all_front x.0 xs rise.0, front xs rise.1)

    found : (xs : Batches) (n : ℕ) (rows : List (List ℕ)) → rows_at xs n ≡ Some rows → rows_at (xs ++ batches) n ≡ Some rows
    found [] n rows there = absurd (true≢false (sym (ap is_some there)))
    found (x ∷ xs) n rows there =
        elim (eq_by_cmp nat_cmp n x.0) as (λ b. cond b (Some x.1) (rows_at xs n) ≡ Some rows
        → cond b (Some x.1) (rows_at (xs ++ batches) n) ≡ Some rows) [
          | true ↦ λ there. there
          | false ↦ λ there. found xs n rows there
        ] there

-- and with all of both they are all
pub are_all : (old batches es : Batches) → Rise (old ++ batches) → AreSomeOf (old ++ batches) es
    → ((n : ℕ) → is_some (rows_at old n) ≡ true → is_some (rows_at es n) ≡ true)
    → ((n : ℕ) → is_some (rows_at batches n) ≡ true → is_some (rows_at es n) ≡ true) → es ≡ old ++ batches
are_all old batches es rise some had each =
    same_entries es (old ++ batches) some.rise rise (λ n. go n (rows_at es n) (rows_at (old ++ batches) n) refl refl)
  where
    there : (n : ℕ) → is_some (rows_at (old ++ batches) n) ≡ true → is_some (rows_at es n) ≡ true
    there n is = elim (in_either old batches n is) [ inl is ↦ had n is | inr is ↦ each n is ]

    go : (n : ℕ) (x y : Option (List (List ℕ))) → rows_at es n ≡ x → rows_at (old ++ batches) n ≡ y → rows_at es n ≡ rows_at (old ++ batches) n
    go n (Some rows) y is all = is ∙ sym (some.each n rows is)
    go n None None is all = is ∙ sym all
    go n None (Some rows) is all = absurd (true≢false (sym (there n (ap is_some all)) ∙ ap is_some is))

-- batches rise on with one that is next
pub rising_on : (batches : List Batch) (batch : Batch) → IsStrictlySortedBy nat_cmp (numbers_of batches)
    → IsNext nat_cmp (numbers_of batches) batch.0 → IsStrictlySortedBy nat_cmp (numbers_of (batches ++ batch ∷ []))
rising_on batches batch rising above =
    subst (IsStrictlySortedBy nat_cmp) (sym (map-append (λ (b : Batch). b.0) batches (batch ∷ [])))
    (rises_next nat_cmp nat_cmp_total (numbers_of batches) batch.0 rising above)

-- no batches rise
pub none_rise : Rise []
unfolding IsStrictlySortedBy
none_rise = tt
