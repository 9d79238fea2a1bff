-- Parts that fit a world.
use Rattle.std.specs.Prelude.{◌≡◌, ◌≢◌, refl, ℕ, zero, suc, ◌+◌, ◌*◌, ◌<◌, ◌≤◌, ◌⊎◌, ◌==◌, nat_lt, Bool, true, false, List, [], ◌∷◌, ◌++◌}
use Rattle.std.specs.Prelude.{map, flat_map, take, length, Option, Some, None, IsSome, IsTrue, unwrap_or, if◌then◌else◌}
use Rattle.std.proofs.Common.{◌∙◌, sym, ap, subst, inl, inr, arith}
use Rattle.std.proofs.lemmas.Bool.{cases_lt}
use Rattle.std.proofs.lemmas.Grind.{flat_map-append}
use Rattle.std.proofs.lemmas.List.{length-map}
use Rattle.std.proofs.lemmas.List.Sums.{sum_by-cons}
use Rattle.std.specs.Option.{is_some}
use Rattle.std.specs.List.{AllByRecursion}
use Rattle.std.specs.Ordering.{nat_cmp}
use Rattle.std.specs.BTreeMap.{insert_entry}
use Rattle.grouping_model.specs.Datum.{Row, Kind, HasKinds}
use Rattle.grouping_model.specs.Query.{Query}
use Rattle.grouping_model.specs.Grouping.{part}
use Rattle.grouping_model.specs.World.{World, IsWorld, count_up, batch_rows, rows_upto}
use Rattle.grouping_model.specs.declared.limits.TheConstants.{MAX_ROWS}
use Rattle.grouping_model.specs.declared.delivered.Delivered.{Delivered}
use Rattle.grouping_model.specs.declared.delivered.Delivered.TheVariants.{Folded, Early, Known}
use Rattle.grouping_model.specs.Lemmas.UnionLaws.{counted_on}
use Rattle.packed_rows.specs.Columns.{kinds}
use Rattle.packed_rows.specs.Packing.{packing}
use Rattle.batch_reader.specs.Rows.{packings}
use Rattle.query_checks.specs.Checks.{Checked}
use Rattle.having_filter.specs.Meaning.{meaning}
use Rattle.group_runs.specs.Runs.{Entry}
use Rattle.group_runs.specs.Standing.{AreGroups, run_bytes}
use Rattle.packed_rows.specs.ConcatenatedRows.{concatenated}
use Rattle.hash_agg.specs.Inputs.{Packed, Counted, AreInputsOf, all_rows, rows_in}
use Rattle.group_runs.specs.StandingLaws.{groups_raised, stands_spelled}
use Rattle.origin_prefix.specs.Parts.{Batches, Part, rows_at, IsPartOf, following, rows_following, Folds, Drains, Disagrees, Delivers}
use Rattle.origin_prefix.specs.Joins.{either, longer, shorter, PartsDisagree, Joins}
use Rattle.origin_prefix.specs.Fitting.{FitsOrigin}
use Rattle.origin_prefix.specs.WorldRows.{batch_kinds, count_length}
use Rattle.origin_prefix.specs.Lemmas.Lists.{same_or_other}
use Rattle.origin_prefix.specs.Lemmas.ByNumber.{some_is, found_holds, all_found, put_same, put_else}
use Rattle.list_laws.specs.Each.{each_dropped}

-- ---- batches of a world

-- a batch has the world's rows, packed
abbrev pub IsOfWorld : World → ℕ → ℕ × List (List ℕ) → Type 0
IsOfWorld world origin batch = (those : List Row) × (world origin batch.0 ≡ Some those) × (batch.1 ≡ packings those)

-- the packings of a batch of a world
abbrev pub packed_batch : World → ℕ → ℕ → List (List ℕ)
packed_batch world origin n = packings (batch_rows world origin n)

of_world : (world : World) (origin n : ℕ) (rows : List (List ℕ)) → IsOfWorld world origin (n, rows) → rows ≡ packed_batch world origin n
of_world world origin n rows is = is.2 ∙ sym (ap (λ o. packings (unwrap_or o [])) is.1)

-- those that follow are the world's, one number after the other
followed : (world : World) (origin n : ℕ) (batches : Batches) → AllByRecursion (IsOfWorld world origin) batches
    → rows_following n batches ≡ map (packed_batch world origin) (count_up (n + 1) (following n batches))
followed world origin n [] all = refl
followed world origin n (b ∷ batches) all =
    elim (b.0 == n + 1) as (λ t. (b.0 == n + 1) ≡ t
    → map (λ (e : ℕ × List (List ℕ)). e.1) (take (if t then suc (following (n + 1) batches) else 0) (b ∷ batches))
    ≡ map (packed_batch world origin) (count_up (n + 1) (if t then suc (following (n + 1) batches) else 0))) [
      | true ↦ λ e.
          let next : b.0 ≡ n + 1 = grind arith in
          let here : b.1 ≡ packed_batch world origin (n + 1) = of_world world origin b.0 b.1 all.0 ∙ ap (packed_batch world origin) next in
          (λ i. here i ∷ followed world origin (n + 1) batches all.1 i)
      | false ↦ λ e. refl
    ] refl

some_of : {X : Type 0} {o : Option X} {x : X} → o ≡ Some x → IsSome o
some_of e = ap is_some e

following_there : (world : World) (origin n : ℕ) (batches : Batches) → AllByRecursion (IsOfWorld world origin) batches → (m : ℕ) → n < m
    → m ≤ n + following n batches → IsSome (world origin m)
following_there world origin n [] all m low high = absurd (omega (arith, low, high))
following_there world origin n (b ∷ batches) all m low high =
    elim (b.0 == n + 1) as (λ t. (b.0 == n + 1) ≡ t → m ≤ n + (if t then suc (following (n + 1) batches) else 0)
    → IsSome (world origin m)) [
      | true ↦ λ e high.
          let next : b.0 ≡ n + 1 = grind arith in
          elim (cases_lt (n + 1) m) [
            | inl later ↦ following_there world origin (n + 1) batches all.1 m later (omega (arith, high))
            | inr now ↦ let same : b.0 ≡ m = omega (arith, next, low, now) in subst (λ k. IsSome (world origin k)) same (some_of all.0.1)
          ]
      | false ↦ λ e high. absurd (omega (arith, low, high))
    ] refl high

-- the rows of a batch of a world
module _ (ks : List Kind) (world : World) (is : IsWorld ks world) (origin : ℕ) where
  batch_few : (n : ℕ) → length (batch_rows world origin n) ≤ MAX_ROWS
  batch_few n =
      elim (world origin n) as (λ o. world origin n ≡ o → length (unwrap_or o []) ≤ MAX_ROWS) [
        | None ↦ λ e. omega arith
        | Some rows ↦ λ e. (is origin n rows e).3
      ] refl

  are_inputs : (q : Query) → q.kinds ≡ ks → (ns : List ℕ) → AreInputsOf q (map Packed (map (packed_batch world origin) ns))
      (map (batch_rows world origin) ns)
  are_inputs q same [] = tt
  are_inputs q same (n ∷ ns) = (
    record {
      of_kinds = subst (λ k. AllByRecursion (HasKinds k) (batch_rows world origin n)) (sym same)
          (batch_kinds ks world is origin n);
      packings_are = refl;
    },
    are_inputs q same ns,
  )

  few_packed : (ns : List ℕ) → all_rows (map Packed (map (packed_batch world origin) ns)) ≤ length ns * MAX_ROWS
  few_packed [] = omega arith
  few_packed (n ∷ ns) =
      let one : length (packed_batch world origin n) ≡ length (batch_rows world origin n) = length-map (batch_rows world origin n) packing
      in
      let few : length (batch_rows world origin n) ≤ MAX_ROWS = batch_few n in
      let rest : all_rows (map Packed (map (packed_batch world origin) ns)) ≤ length ns * MAX_ROWS = few_packed ns in
      let sum : all_rows (map Packed (map (packed_batch world origin) (n ∷ ns))) ≡ length (packed_batch world origin n)
      + all_rows (map Packed (map (packed_batch world origin) ns)) =
      sum_by-cons rows_in (Packed (packed_batch world origin n)) (map Packed (map (packed_batch world origin) ns)) in
      omega (arith, one, few, rest, sum)

ends : (f : ℕ → List Row) (ns : List ℕ) → concatenated (map f ns) ≡ flat_map f ns
ends f [] = refl
ends f (n ∷ ns) = ap (λ rows. f n ++ rows) (ends f ns)

-- the rows of the batches up to a number, and of those that follow
upto_more : (world : World) (origin p k : ℕ) → rows_upto world origin (p + k) ≡ rows_upto world origin p
    ++ flat_map (batch_rows world origin) (count_up (p + 1) k)
upto_more world origin p k =
    let next : 1 + p ≡ p + 1 = omega arith in
    ap (flat_map (batch_rows world origin)) (counted_on 1 p k ∙ ap (λ n. count_up 1 p ++ count_up n k) next)
    ∙ flat_map-append (batch_rows world origin) (count_up 1 p) (count_up (p + 1) k)

-- a run that takes the batches that follow has the groups of their rows too
folds_fit : (honest : Bool) → IsTrue honest → (query : Checked) (world : World) → IsWorld (kinds query.columns) world
    → (origin p k : ℕ) (run new : List Entry)
    → AreGroups (meaning query) (p * MAX_ROWS) run (part (meaning query) (rows_upto world origin p))
    → Folds honest (meaning query) run (p * MAX_ROWS) (map (packed_batch world origin) (count_up (p + 1) k)) new
    → AreGroups (meaning query) ((p + k) * MAX_ROWS) new (part (meaning query) (rows_upto world origin (p + k)))
folds_fit honest so query world is origin p zero run new are folds =
    let same : p ≡ p + 0 = omega arith in
    subst (λ n. AreGroups (meaning query) (n * MAX_ROWS) new (part (meaning query) (rows_upto world origin n))) same
    (subst (λ r. AreGroups (meaning query) (p * MAX_ROWS) r (part (meaning query) (rows_upto world origin p))) (sym folds) are)
folds_fit honest so query world is origin p (suc k) run new are folds =
    let q : Query = meaning query in
    let ns : List ℕ = count_up (p + 1) (suc k) in
    let lists : List (List Row) = rows_upto world origin p ∷ map (batch_rows world origin) ns in
    let sum : all_rows (Counted run (p * MAX_ROWS) ∷ map Packed (map (packed_batch world origin) ns)) ≡ p * MAX_ROWS
    + all_rows (map Packed (map (packed_batch world origin) ns)) =
    sum_by-cons rows_in (Counted run (p * MAX_ROWS)) (map Packed (map (packed_batch world origin) ns)) in
    let few : all_rows (map Packed (map (packed_batch world origin) ns)) ≤ length ns
    * MAX_ROWS = few_packed (kinds query.columns) world is origin ns in
    let counted : length ns ≡ suc k = count_length (p + 1) (suc k) in
    let product : length ns * MAX_ROWS ≡ suc k * MAX_ROWS = ap (λ n. n * MAX_ROWS) counted in
    let product_too : (p + suc k) * MAX_ROWS ≡ p * MAX_ROWS + suc k * MAX_ROWS = omega arith in
    let rows : concatenated lists ≡ rows_upto world origin (p + suc k) = ap (λ r. rows_upto world origin p
    ++ r) (ends (batch_rows world origin) ns) ∙ sym (upto_more world origin p (suc k)) in
    subst (λ r. AreGroups q ((p + suc k) * MAX_ROWS) new (part q r)) rows
    (groups_raised q (all_rows (Counted run (p * MAX_ROWS) ∷ map Packed (map (packed_batch world origin) ns))) ((p + suc k) * MAX_ROWS) new
    (part q (concatenated lists))
    (omega (arith, sum, few, product, product_too))
    ((folds.aggregate so).part lists (are, are_inputs (kinds query.columns) world is origin q refl ns)))

-- a prefix that fits, with batches of the world behind it, fits once it has drained
drained_fits : (honest : Bool) → IsTrue honest → (query : Checked) (world : World) → IsWorld (kinds query.columns) world
    → (origin p : ℕ) (run : List Entry) (batches : Batches) (new : Part)
    → ((n : ℕ) → 1 ≤ n → n ≤ p → IsSome (world origin n))
    → AreGroups (meaning query) (p * MAX_ROWS) run (part (meaning query) (rows_upto world origin p))
    → AllByRecursion (IsOfWorld world origin) batches → Drains honest (meaning query) p run batches new
    → FitsOrigin (meaning query) world origin new
drained_fits honest so query world is origin p run batches new there are all drains =
    let q : Query = meaning query in
    let k : ℕ = following p batches in
    record {
      there = λ n low high.
          let upto : new.prefix ≡ p + k = drains.upto in
          elim (cases_lt p n) [
            | inl above ↦ following_there world origin p batches all n above (omega (arith, high, upto))
            | inr within ↦ there n low within
          ];
      run = subst (λ n. AreGroups q (n * MAX_ROWS) new.run (part q (rows_upto world origin n))) (sym drains.upto)
          (folds_fit honest so query world is origin p k run new.run are (subst (λ rows. Folds honest q run (p * MAX_ROWS) rows new.run)
          (followed world origin p batches all) drains.folded));
      early = λ n rows found.
          found_holds (IsOfWorld world origin) new.early n rows (subst (AllByRecursion (IsOfWorld world origin)) (sym drains.early)
          (each_dropped (IsOfWorld world origin) k batches all)) found;
    }

-- ---- delivering

pub fits_delivered : (honest : Bool) → IsTrue honest → (query : Checked) (world : World) → IsWorld (kinds query.columns) world
    → (origin : ℕ) (old new : Part) (number : ℕ) (those : List Row) (reply : Delivered) → IsPartOf query old
    → FitsOrigin (meaning query) world origin old → world origin number ≡ Some those
    → Delivers honest (meaning query) old number (packings those) new reply → FitsOrigin (meaning query) world origin new
fits_delivered honest so query world is origin old new number those Known part fits there d =
    subst (FitsOrigin (meaning query) world origin) (sym d.2) fits
fits_delivered honest so query world is origin old new number those Early part fits there d =
    subst (FitsOrigin (meaning query) world origin) (sym d.2)
    (record { there = fits.there; run = fits.run; early = λ n rows found. go n rows found (same_or_other n number) })
  where
    go : (n : ℕ) (rows : List (List ℕ)) → rows_at (insert_entry nat_cmp old.early number (packings those)) n ≡ Some rows → (n ≡ number)
        ⊎ (n ≢ number)
        → (x : List Row) × (world origin n ≡ Some x) × (rows ≡ packings x)
    go n rows found (inl same) =
        let here : rows_at (insert_entry nat_cmp old.early number (packings those)) number
        ≡ Some rows = subst (λ m. rows_at (insert_entry nat_cmp old.early number (packings those)) m ≡ Some rows) same found in
        (those, ap (world origin) same ∙ there, some_is rows (packings those) (sym here ∙ put_same old.early number (packings those)))
    go n rows found (inr other) = fits.early n rows (sym (put_else old.early number (packings those) n other) ∙ found)
fits_delivered honest so query world is origin old new number those (Folded upto) part fits there d =
    drained_fits honest so query world is origin old.prefix old.run ((old.prefix + 1, packings those) ∷ old.early) new fits.there fits.run (
      (those, ap (world origin) (sym d.0) ∙ there, refl),
      all_found (IsOfWorld world origin) old.early part.rising (λ n rows found. fits.early n rows found),
    ) d.2

-- a batch of the world never disagrees
pub agrees_delivered : (q : Query) (world : World) (origin : ℕ) (old : Part) (number : ℕ) (those : List Row) → FitsOrigin q world origin old
    → world origin number ≡ Some those
    → ¬ (Disagrees old number (packings those))
agrees_delivered q world origin old number those fits there d =
    let kept = fits.early number d.kept d.there in
    absurd (d.other (kept.2 ∙ ap (λ o. packings (unwrap_or o [])) (sym kept.1 ∙ there)))

-- ---- joining

longer_fits : (q : Query) (world : World) (origin : ℕ) (a b : Part) → FitsOrigin q world origin a → FitsOrigin q world origin b
    → FitsOrigin q world origin (longer a b) × FitsOrigin q world origin (shorter a b)
longer_fits q world origin a b fits_a fits_b =
    elim (nat_lt a.prefix b.prefix) as (λ t. FitsOrigin q world origin (if t then b else a)
    × FitsOrigin q world origin (if t then a else b)) [ true ↦ (fits_b, fits_a) | false ↦ (fits_a, fits_b) ]

pub fits_joined : (honest : Bool) → IsTrue honest → (query : Checked) (world : World) → IsWorld (kinds query.columns) world
    → (origin : ℕ) (a b new : Part)
    → FitsOrigin (meaning query) world origin a → FitsOrigin (meaning query) world origin b → Joins honest (meaning query) a b new
    → FitsOrigin (meaning query) world origin new
fits_joined honest so query world is origin a b new fits_a fits_b joins =
    let q : Query = meaning query in
    let both = longer_fits q world origin a b fits_a fits_b in
    let l : Part = longer a b in
    let s : Part = shorter a b in
    drained_fits honest so query world is origin l.prefix l.run joins.behind new both.0.there both.0.run
    (all_found (IsOfWorld world origin) joins.behind joins.united.rising (λ n rows found.
    let above : l.prefix < n = found_holds (λ (e : ℕ × List (List ℕ)). l.prefix < e.0) joins.behind n rows joins.united.above found in
    of_either l s both.0 both.1 n rows (sym (joins.united.rows n above) ∙ found))) joins.drained
  where
    of_either : (l s : Part) → FitsOrigin (meaning query) world origin l → FitsOrigin (meaning query) world origin s
        → (n : ℕ) (rows : List (List ℕ))
        → either (rows_at l.early n) (rows_at s.early n) ≡ Some rows → IsOfWorld world origin (n, rows)
    of_either l s fits_l fits_s n rows e =
        elim (rows_at l.early n) as (λ o. rows_at l.early n ≡ o → either o (rows_at s.early n) ≡ Some rows
        → IsOfWorld world origin (n, rows)) [
          | None ↦ λ one two. fits_s.early n rows two
          | Some kept ↦ λ one two. fits_l.early n rows (one ∙ two)
        ] refl e

pub agrees_joined : (q : Query) (world : World) (origin : ℕ) (a b : Part) → FitsOrigin q world origin a → FitsOrigin q world origin b
    → ¬ (PartsDisagree a b)
agrees_joined q world origin a b fits_a fits_b (inl runs) =
    let same : rows_upto world origin a.prefix ≡ rows_upto world origin b.prefix = ap (rows_upto world origin) runs.0 in
    absurd (runs.1
    ((stands_spelled q (a.prefix * MAX_ROWS) a.run (part q (rows_upto world origin a.prefix)) fits_a.run).0
    ∙ ap (λ rows. run_bytes (part q rows)) same
    ∙ sym (stands_spelled q (b.prefix * MAX_ROWS) b.run (part q (rows_upto world origin b.prefix)) fits_b.run).0))
agrees_joined q world origin a b fits_a fits_b (inr d) =
    let one = fits_a.early d.0 d.1.rows d.1.there in
    let two = fits_b.early d.0 d.1.those d.1.there_too in
    absurd (d.1.differ (one.2 ∙ ap (λ o. packings (unwrap_or o [])) (sym one.1 ∙ two.1) ∙ sym two.2))
