-- The batches that follow a prefix: what they bring, and what becomes of a part that takes them.
use Rattle.std.specs.Prelude.{◌≡◌, refl, ℕ, zero, suc, ◌+◌, ◌*◌, ◌<◌, ◌≤◌, ◌==◌, Bool, true, false, cond, List, [], ◌∷◌, map, filter, take}
use Rattle.std.specs.Prelude.{drop, length, if◌then◌else◌}
use Rattle.std.proofs.Common.{◌∙◌, sym, ap, subst, inl, inr, arith}
use Rattle.std.proofs.lemmas.List.{length-map, length-append}
use Rattle.std.proofs.lemmas.List.Sums.{sum_by-cons}
use Rattle.std.specs.List.{AllByRecursion}
use Rattle.std.specs.List.Sorted.{IsStrictlySortedBy}
use Rattle.std.specs.Ordering.{nat_cmp}
use Rattle.std.proofs.lemmas.Bool.{cases_lt}
use Rattle.list_laws.specs.Each.{each_weaker, each_both, each_dropped}
use Rattle.grouping_model.specs.Condition.{is_met}
use Rattle.grouping_model.specs.Datum.{Kind, Row}
use Rattle.grouping_model.specs.Grouping.{key_of, selected, column_of}
use Rattle.grouping_model.specs.Parts.{keys_of}
use Rattle.grouping_model.specs.Query.{Query}
use Rattle.packed_rows.specs.Packing.{packing}
use Rattle.grouping_model.specs.declared.limits.TheConstants.{LAST_NUMBER, MAX_ROWS}
use Rattle.packed_rows.specs.Columns.{kinds}
use Rattle.batch_reader.specs.Rows.{ArePackedRows}
use Rattle.query_checks.specs.Checks.{Checked}
use Rattle.having_filter.specs.Meaning.{meaning}
use Rattle.packed_rows.specs.ConcatenatedRows.{concatenated}
use Rattle.hash_agg.specs.Inputs.{Packed, Counted, Aggregated, IsInput, AllBring, all_rows, rows_in}
use Rattle.group_runs.specs.Runs.{Entry, packed_keys}
use Rattle.group_runs.specs.Standing.{IsRun}
use Rattle.group_runs.specs.StandingLaws.{groups_raised, keys_packed, keys_of_kinds}
use Rattle.origin_prefix.specs.Lemmas.ByNumber.{numbers, above_first, rising_rest}
use Rattle.origin_prefix.specs.Parts.{Batches, Part, IsEarly, IsBehind, IsOpen, IsPartOf, following, rows_following, Folds, Drains}
use Rattle.origin_prefix.specs.Lemmas.PartLaws.{packed_input}

-- what holds of each batch holds of the rows of those that follow
pub each_following : (P : List (List ℕ) → Type 0) (Q : ℕ × List (List ℕ) → Type 0) → ((batch : ℕ × List (List ℕ)) → Q batch → P batch.1)
    → (n : ℕ) (batches : Batches) → AllByRecursion Q batches
    → AllByRecursion P (map (λ (batch : ℕ × List (List ℕ)). batch.1) (take n batches))
each_following P Q each zero batches all = tt
each_following P Q each (suc n) [] all = tt
each_following P Q each (suc n) (batch ∷ batches) all = (each batch all.0, each_following P Q each n batches all.1)

pub all_mapped : {X Y : Type 0} (P : X → Type 0) (Q : Y → Type 0) (f : X → Y) → ((x : X) → P x → Q (f x)) → (xs : List X)
    → AllByRecursion P xs → AllByRecursion Q (map f xs)
all_mapped P Q f each [] all = tt
all_mapped P Q f each (x ∷ xs) all = (each x all.0, all_mapped P Q f each xs all.1)

pub following_inputs : (query : Checked) (prefix : ℕ) (batches : Batches) → AllByRecursion (IsBehind (kinds query.columns) prefix) batches
    → AllByRecursion (IsInput (meaning query)) (map Packed (rows_following prefix batches))
following_inputs query prefix batches all =
    all_mapped (ArePackedRows (kinds query.columns)) (IsInput (meaning query)) Packed (packed_input query) (rows_following prefix batches)
    (each_following (ArePackedRows (kinds query.columns)) (IsBehind (kinds query.columns) prefix) (λ batch is. is.rows)
    (following prefix batches) batches all)

-- they have few rows
few_rows : (ks : List Kind) (rows : List (List (List ℕ))) → AllByRecursion (ArePackedRows ks) rows
    → all_rows (map Packed rows) ≤ length rows * MAX_ROWS
few_rows ks [] all = omega arith
few_rows ks (batch ∷ rows) all =
    let one : length batch ≤ MAX_ROWS = all.0.few in
    let rest : all_rows (map Packed rows) ≤ length rows * MAX_ROWS = few_rows ks rows all.1 in
    let sum : all_rows (map Packed (batch ∷ rows)) ≡ length batch + all_rows (map Packed rows) = sum_by-cons rows_in (Packed batch)
    (map Packed rows) in
    omega (arith, one, rest, sum)

taken : {X Y : Type 0} (f : X → Y) (n : ℕ) (xs : List X) → length (map f (take n xs)) ≤ n
taken f zero xs = omega arith
taken f (suc n) [] = omega arith
taken f (suc n) (x ∷ xs) = let rest = taken f n xs in omega (arith, rest)

pub few_following : (query : Checked) (prefix : ℕ) (batches : Batches) → AllByRecursion (IsBehind (kinds query.columns) prefix) batches
    → all_rows (map Packed (rows_following prefix batches)) ≤ following prefix batches * MAX_ROWS
few_following query prefix batches all =
    let few : all_rows (map Packed (rows_following prefix batches)) ≤ length (rows_following prefix batches) * MAX_ROWS =
    few_rows (kinds query.columns) (rows_following prefix batches)
    (each_following (ArePackedRows (kinds query.columns)) (IsBehind (kinds query.columns) prefix) (λ batch is. is.rows)
    (following prefix batches) batches all) in
    let count : length (rows_following prefix batches) ≤ following prefix batches = taken (λ (batch : ℕ × List (List ℕ)). batch.1)
    (following prefix batches) batches in
    omega (arith, few, count)

-- the numbers that follow lie within the limit
pub reach_within : (n : ℕ) (batches : Batches) → n ≤ LAST_NUMBER → AllByRecursion (λ (batch : ℕ × List (List ℕ)). batch.0 ≤ LAST_NUMBER)
    batches → n + following n batches ≤ LAST_NUMBER
reach_within n [] low all = omega (arith, low)
reach_within n (batch ∷ batches) low all =
    elim (batch.0 == n + 1) as (λ b. (batch.0 == n + 1) ≡ b → n + (if b then suc (following (n + 1) batches) else 0) ≤ LAST_NUMBER) [
      | true ↦ λ e.
          let next : batch.0 ≡ n + 1 = grind arith in
          let here : batch.0 ≤ LAST_NUMBER = all.0 in
          let rest : n + 1 + following (n + 1) batches ≤ LAST_NUMBER = reach_within (n + 1) batches (omega (arith, next, here)) all.1 in
          omega (arith, rest)
      | false ↦ λ e. omega (arith, low)
    ] refl

pub rising_drop : (k : ℕ) (batches : Batches) → IsStrictlySortedBy nat_cmp (numbers batches)
    → IsStrictlySortedBy nat_cmp (numbers (drop k batches))
rising_drop zero batches rising = rising
rising_drop (suc k) [] rising = rising
rising_drop (suc k) (batch ∷ batches) rising = rising_drop k batches (rising_rest batch batches rising)

-- behind those that follow there is a gap
pub gap_behind : (n : ℕ) (batches : Batches) → IsStrictlySortedBy nat_cmp (numbers batches)
    → AllByRecursion (λ (batch : ℕ × List (List ℕ)). n < batch.0) batches
    → AllByRecursion (λ (batch : ℕ × List (List ℕ)). n + following n batches + 1 < batch.0) (drop (following n batches) batches)
gap_behind n [] rising above = tt
gap_behind n (batch ∷ batches) rising above =
    elim (batch.0 == n + 1) as (λ b. (batch.0 == n + 1) ≡ b
    → AllByRecursion (λ (other : ℕ × List (List ℕ)). n + (if b then suc (following (n + 1) batches) else 0) + 1 < other.0)
    (drop (if b then suc (following (n + 1) batches) else 0) (batch ∷ batches))) [
      | true ↦ λ e.
          let next : batch.0 ≡ n + 1 = grind arith in
          each_weaker (λ (b : ℕ × List (List ℕ)). n + 1 + following (n + 1) batches + 1 < b.0) (λ (b : ℕ × List (List ℕ)). n
          + suc (following (n + 1) batches) + 1 < b.0)
          (λ b l. omega (arith, l)) (drop (following (n + 1) batches) batches)
          (gap_behind (n + 1) batches (rising_rest batch batches rising)
          (subst (λ m. AllByRecursion (λ (b : ℕ × List (List ℕ)). m < b.0) batches) next (above_first batch.0 batch.1 batches rising)))
      | false ↦ λ e.
          let apart : batch.0 ≡ n + 1 → ⊥ = λ same. grind arith in
          let low : n < batch.0 = above.0 in
          let behind : n + 1 < batch.0 = elim (cases_lt (n + 1) batch.0) [ inl l ↦ l | inr h ↦ absurd (apart (omega (arith, h, low))) ] in (
            omega (arith, behind),
            each_weaker (λ (b : ℕ × List (List ℕ)). batch.0 < b.0) (λ (b : ℕ × List (List ℕ)). n + 0 + 1 < b.0)
                (λ b l. omega (arith, l, behind)) batches (above_first batch.0 batch.1 batches rising),
          )
    ] refl

-- ---- a part that drained

-- a run that took the batches that follow, where some do
pub folds_some : (honest : Bool) (q : Query) (old new : List Entry) (rows prefix : ℕ) (batches : Batches) → prefix < prefix
    + following prefix batches → Aggregated honest q (Counted old rows ∷ map Packed (rows_following prefix batches)) new
    → Folds honest q old rows (rows_following prefix batches) new
folds_some honest q old new rows prefix [] some is = absurd (omega (arith, some))
folds_some honest q old new rows prefix (b ∷ batches) some is =
    elim (b.0 == prefix + 1) as (λ t. let lists : List (List (List ℕ)) = map (λ (batch : ℕ × List (List ℕ)). batch.1)
    (take (if t then suc (following (prefix + 1) batches) else 0) (b ∷ batches)) in
    prefix < prefix + (if t then suc (following (prefix + 1) batches) else 0)
    → Aggregated honest q (Counted old rows ∷ map Packed lists) new → Folds honest q old rows lists new) [
      | true ↦ λ some is. is
      | false ↦ λ some. absurd (omega (arith, some))
    ] some is

-- what packed rows bring: as many keys as rows at most
brings_packed : (q : Query) (rows : List (List (List ℕ))) → AllByRecursion (IsInput q) (map Packed rows)
    → (lists : List (List Row)) × AllBring q (map Packed rows) lists × (length (concatenated lists) ≤ all_rows (map Packed rows))
brings_packed q [] all = ([], tt, omega arith)
brings_packed q (batch ∷ rows) all =
    let rest = brings_packed q rows all.1 in
    let these : List Row = all.0.0 in
    let keys : List Row = map (key_of q) (selected q these) in
    let few : length keys ≤ length batch =
    let same : length keys ≡ length (selected q these) = length-map (selected q these) (key_of q) in
    let kept : length (selected q these) ≤ length these = fewer (λ row. is_met (column_of row) q.condition) these in
    let packed : length batch ≡ length these = ap length all.0.1.packings_are ∙ length-map these packing in
    omega (arith, same, kept, packed)
    in
    let count : length (concatenated (keys ∷ rest.0)) ≡ length keys
    + length (concatenated rest.0) = length-append keys (concatenated rest.0) in
    let sum : all_rows (map Packed (batch ∷ rows)) ≡ length batch + all_rows (map Packed rows) = sum_by-cons rows_in (Packed batch)
    (map Packed rows) in
    let low : length (concatenated rest.0) ≤ all_rows (map Packed rows) = rest.2 in
    (keys ∷ rest.0, ((these, all.0.1, refl), rest.1), omega (arith, few, count, sum, low))
  where
    fewer : {X : Type 0} (p : X → Bool) (xs : List X) → length (filter p xs) ≤ length xs
    fewer p [] = omega arith
    fewer p (x ∷ xs) =
        let rest : length (filter p xs) ≤ length xs = fewer p xs in
        elim (p x) as (λ b. length (cond b (x ∷ filter p xs) (filter p xs)) ≤ length (x ∷ xs))
        [ true ↦ omega (arith, rest) | false ↦ omega (arith, rest) ]

-- a run that took rows has few groups, and counts few rows
few_groups : (honest : Bool) (q : Query) (rows : ℕ) (old new : List Entry) (batches : List (List (List ℕ))) → IsRun q rows old
    → AllByRecursion (IsInput q) (map Packed batches)
    → Folds honest q old rows batches new → length new ≤ length old + all_rows (map Packed batches)
few_groups honest q rows old new [] is all folds = let same : length new ≡ length old = ap length folds in omega (arith, same)
few_groups honest q rows old new (batch ∷ batches) is all folds =
    let these : List Row = keys_of is.groups in
    let packed : packed_keys old ≡ map packing these = keys_packed q rows old is.groups is.are in
    let rest = brings_packed q (batch ∷ batches) all in
    let few : length new ≤ length (concatenated (these ∷ rest.0)) =
    folds.run_over.few (these ∷ rest.0) (record { of_kinds = keys_of_kinds q rows old is.groups is.are; packings_are = packed }, rest.1) in
    let count : length (concatenated (these ∷ rest.0)) ≡ length these
    + length (concatenated rest.0) = length-append these (concatenated rest.0) in
    let as_many : length old ≡ length these = sym (length-map old (λ (e : Entry). e.0)) ∙ ap length packed ∙ length-map these packing in
    let low : length (concatenated rest.0) ≤ all_rows (map Packed (batch ∷ batches)) = rest.2 in
    omega (arith, few, count, as_many, low)

still_run : (honest : Bool) (q : Query) (rows : ℕ) (old new : List Entry) (batches : List (List (List ℕ))) → IsRun q rows old
    → Folds honest q old rows batches new
    → IsRun q (rows + all_rows (map Packed batches)) new
still_run honest q rows old new [] is folds =
    let same : rows + all_rows (map Packed []) ≡ rows = omega arith in
    subst (λ n. IsRun q n new) (sym same) (subst (IsRun q rows) (sym folds) is)
still_run honest q rows old new (batch ∷ batches) is folds = subst (λ n. IsRun q n new)
    (sum_by-cons rows_in (Counted old rows) (map Packed (batch ∷ batches))) folds.run_over.is_run

run_raised : (q : Query) (m n : ℕ) (run : List Entry) → m ≤ n → IsRun q m run → IsRun q n run
run_raised q m n run low is = record { groups = is.groups; are = groups_raised q m n run is.groups low is.are; rises = is.rises }

pub drained_part : (honest : Bool) (query : Checked) (prefix : ℕ) (run : List Entry) (batches : Batches) (new : Part)
    → IsOpen query prefix run batches → Drains honest (meaning query) prefix run batches new → IsPartOf query new
drained_part honest query prefix run batches new may drains =
    let q : Query = meaning query in
    let k : ℕ = following prefix batches in
    let upto : new.prefix ≡ prefix + k = drains.upto in
    let rows : List (List (List ℕ)) = rows_following prefix batches in
    let inputs = following_inputs query prefix batches may.above in
    let few : all_rows (map Packed rows) ≤ k * MAX_ROWS = few_following query prefix batches may.above in
    let groups : length new.run ≤ length run + all_rows (map Packed rows) = few_groups honest q (prefix * MAX_ROWS) run new.run rows
    may.is_run inputs drains.folded in
    let had : length run ≤ prefix * MAX_ROWS = may.few in
    let most : new.prefix * MAX_ROWS ≡ prefix * MAX_ROWS + k * MAX_ROWS = ap (λ n. n * MAX_ROWS) upto ∙ omega arith in
    let limit : prefix + k ≤ LAST_NUMBER = reach_within prefix batches may.within (each_weaker (IsBehind (kinds query.columns) prefix)
    (λ (batch : ℕ × List (List ℕ)). batch.0 ≤ LAST_NUMBER) (λ batch is. is.within) batches may.above) in
    record {
      within = omega (arith, upto, limit);
      run = run_raised q (prefix * MAX_ROWS + all_rows (map Packed rows)) (new.prefix * MAX_ROWS) new.run (omega (arith, few, most))
          (still_run honest q (prefix * MAX_ROWS) run new.run rows may.is_run drains.folded);
      few = omega (arith, groups, had, few, most);
      rising = subst (λ bs. IsStrictlySortedBy nat_cmp (numbers bs)) (sym drains.early) (rising_drop k batches may.rising);
      early = subst (AllByRecursion (IsEarly (kinds query.columns) new.prefix)) (sym drains.early)
          (each_both (λ (b : ℕ × List (List ℕ)). prefix + k + 1 < b.0) (IsBehind (kinds query.columns) prefix)
          (IsEarly (kinds query.columns) new.prefix)
          (λ b low is. record { behind = subst (λ n. n + 1 < b.0) (sym upto) low; within = is.within; rows = is.rows })
          (drop k batches) (gap_behind prefix batches may.rising (each_weaker (IsBehind (kinds query.columns) prefix)
          (λ (batch : ℕ × List (List ℕ)). prefix < batch.0) (λ batch is. is.behind) batches may.above))
          (each_dropped (IsBehind (kinds query.columns) prefix) k batches may.above));
    }
