-- The file of a world: what it is of fits the world, and may be held.
use Rattle.std.specs.Prelude.{◌≡◌, ◌≢◌, refl, ℕ, zero, suc, ◌+◌, ◌*◌, ◌<◌, ◌≤◌, ◌⊎◌, true, List, [], ◌∷◌, ◌++◌, map, flat_map, length}
use Rattle.std.specs.Prelude.{Option, Some, None, IsSome, IsTrue, IsUtf8, unwrap_or}
use Rattle.std.proofs.Common.{sym, ◌∙◌, ap, subst, inl, inr, arith}
use Rattle.std.proofs.Math.Nat.{suc-mul}
use Rattle.std.proofs.lemmas.Bool.{cases_lt}
use Rattle.std.proofs.lemmas.List.{length-append, length-map}
use Rattle.std.specs.List.{AllByRecursion}
use Rattle.std.specs.List.Sorted.{IsStrictlySortedBy}
use Rattle.std.specs.Ordering.{nat_cmp}
use Rattle.summary_codec.specs.Lemmas.Words.{each_append, Row, Kind, HasKinds, MAX_ROWS, kinds, packing, packings, Checked, spelling}
use Rattle.summary_codec.specs.Lemmas.Words.{IsCheckedQuery, by_names, meaning, AreGroups, run_bytes, IsHeldPart, AreHeldParts, Part}
use Rattle.summary_codec.specs.Lemmas.Words.{IsEarly, IsPartOf, IsSummaryIn, last_number, most_batch_rows, IsBatchWithin, IsWithin}
use Rattle.summary_codec.specs.Lemmas.Words.{AreWithin, Version, Second}
use Rattle.grouping_model.specs.EarlyLaws.{early_are, early_rise, origins_are, origins_rise}
use Rattle.grouping_model.specs.Grouping.{part}
use Rattle.grouping_model.specs.MemberLaws.{Member, from_contains, to_contains, false_is_not_true}
use Rattle.grouping_model.specs.World.{World, IsWorld, Knowledge, knows, origins, prefix, early, count_up, batch_rows, rows_upto}
use Rattle.grouping_model.specs.Lemmas.LearningLaws.{next_unknown}
use Rattle.grouping_model.specs.Lemmas.PrefixLaws.{prefix_unbroken}
use Rattle.origin_prefix.specs.Fitting.{FitsOrigin}
use Rattle.origin_prefix.specs.WorldRows.{batch_kinds, count_length}
use Rattle.origin_prefix.specs.Lemmas.ByNumber.{found_holds}
use Rattle.summary_codec.specs.WorldFile.{world_part, world_file_in}
use Rattle.summary_codec.specs.Worlds.{IsKnownOf, IsKnownWithin, world_parts}
use Rattle.summary_codec.specs.Lemmas.RowGroups.{each_mapped, groups_few, groups_rise, groups_stand}
use Rattle.summary_codec.specs.Lemmas.TextLaws.{schema_text}
use Rattle.summary_codec.specs.Lemmas.WrittenRead.{read_again}

-- ---- the rows of a world

there_is : {X : Type 0} (o : Option X) → IsSome o → (x : X) × (o ≡ Some x)
there_is None some = false_is_not_true some
there_is (Some x) some = (x, refl)

rows_kinds : (ks : List Kind) (world : World) → IsWorld ks world → (origin : ℕ) (ns : List ℕ)
    → AllByRecursion (HasKinds ks) (flat_map (batch_rows world origin) ns)
rows_kinds ks world is origin [] = tt
rows_kinds ks world is origin (n ∷ ns) = each_append (HasKinds ks) (batch_rows world origin n) (flat_map (batch_rows world origin) ns)
    (batch_kinds ks world is origin n) (rows_kinds ks world is origin ns)

-- batches one behind the other, of each of which so many rows are known at most
few_counted : (world : World) (origin most first n : ℕ) → ((number : ℕ) → first ≤ number → number < first + n
    → length (batch_rows world origin number) ≤ most)
    → length (flat_map (batch_rows world origin) (count_up first n)) ≤ length (count_up first n) * most
few_counted world origin most first zero few = omega arith
few_counted world origin most first (suc n) few =
    let one : length (batch_rows world origin first) ≤ most = few first (omega arith) (omega arith) in
    let rest : length (flat_map (batch_rows world origin) (count_up (first + 1) n)) ≤ length (count_up (first + 1) n) * most =
    few_counted world origin most (first + 1) n (λ number low high. few number (omega (arith, low)) (omega (arith, high))) in
    let both : length (batch_rows world origin first ++ flat_map (batch_rows world origin) (count_up (first + 1) n))
    ≡ length (batch_rows world origin first) + length (flat_map (batch_rows world origin) (count_up (first + 1) n)) =
    length-append (batch_rows world origin first) (flat_map (batch_rows world origin) (count_up (first + 1) n)) in
    sum_low (length (batch_rows world origin first)) (length (flat_map (batch_rows world origin) (count_up (first + 1) n))) _
    (length (count_up (first + 1) n)) one rest both
  where
    sum_low : (a b c k : ℕ) → a ≤ most → b ≤ k * most → c ≡ a + b → c ≤ suc k * most
    sum_low a b c k one rest both = let product = suc-mul k most in omega (arith, one, rest, both, product)

-- ---- batches under their numbers

abbrev numbered : World → ℕ → ℕ → ℕ × List (List ℕ)
numbered world origin n = (n, packings (batch_rows world origin n))

pub numbers_back : {X : Type 0} (f : ℕ → X) (ns : List ℕ) → map (λ (e : ℕ × X). e.0) (map (λ n. (n, f n)) ns) ≡ ns
numbers_back f [] = refl
numbers_back f (n ∷ ns) = ap (λ rest. n ∷ rest) (numbers_back f ns)

some_mapped : {X Y : Type 0} (f : X → Y) (xs : List X) (x : X) → Member xs x → map f xs ≢ []
some_mapped f [] x m = absurd m
some_mapped f (y ∷ ys) x m = λ e. let none : length (map f (y ∷ ys)) ≡ 0 = ap length e in absurd (omega (arith, none))

-- ---- bounds

-- each world's batches keep the bounds of the second version
pub second_keeps : (query : Checked) (world : World) (known : Knowledge) → IsWorld (kinds query.columns) world
    → IsKnownWithin Second world known
second_keeps query world known is_world origin number rows knows_it there =
    let limits = is_world origin number rows there in
    (limits.2, limits.3)

-- ---- what is held of an origin

module _ (query : Checked) (world : World) (known : Knowledge) (is_query : IsCheckedQuery query)
    (is_world : IsWorld (kinds query.columns) world) (of_world : IsKnownOf world known) where
  -- a batch that is known is there, and keeps the limits
  known_rows : (origin number : ℕ) → IsTrue (knows known (origin, number)) → (rows : List Row) × (world origin number ≡ Some rows)
  known_rows origin number knows_it = there_is (world origin number) (of_world.there origin number knows_it)

  pub known_from_one : (origin number : ℕ) → IsTrue (knows known (origin, number)) → 1 ≤ number
  known_from_one origin number knows_it = let found = known_rows origin number knows_it in (is_world origin number found.0 found.1).1

  -- an early batch has a gap before it
  early_behind : (origin number : ℕ) → IsTrue (knows known (origin, number)) → prefix known origin < number → prefix known origin
      + 1 < number
  early_behind origin number knows_it low =
      elim (cases_lt (prefix known origin + 1) number) [
        | inl far ↦ far
        | inr near ↦
            let same : number ≡ prefix known origin + 1 = omega (arith, low, near) in
            false_is_not_true (sym (next_unknown known origin) ∙ subst (λ n. knows known (origin, n) ≡ true) same knows_it)
      ]

  early_known : (origin number : ℕ) → Member (early known origin) number → IsTrue (knows known (origin, number))
      × (prefix known origin < number)
  early_known origin number listed = (early_are known origin number).0 (to_contains (early known origin) number listed)

  is_early : (origin number : ℕ) → Member (early known origin) number
      → IsEarly (kinds query.columns) (prefix known origin) (numbered world origin number)
  is_early origin number listed =
      let told = early_known origin number listed in
      let found = known_rows origin number told.0 in
      let limits = is_world origin number found.0 found.1 in
      let here : batch_rows world origin number ≡ found.0 = ap (λ o. unwrap_or o []) found.1 in
      let few : length found.0 ≤ MAX_ROWS = limits.3 in
      let long : length (packings (batch_rows world origin number))
      ≡ length (batch_rows world origin number) = length-map (batch_rows world origin number) packing in
      let same : length (batch_rows world origin number) ≡ length found.0 = ap length here in
      record {
        behind = early_behind origin number told.0 told.1;
        within = limits.2;
        rows = record { few = omega (arith, few, long, same); rows = found.0; of_kinds = limits.4; packings_are = ap packings here };
      }

  abbrev rows_of_prefix : ℕ → List Row
  rows_of_prefix origin = rows_upto world origin (prefix known origin)

  -- within the bounds of a version, if the known batches keep them
  rows_within : (version : Version) → IsKnownWithin version world known → (origin number : ℕ) → IsTrue (knows known (origin, number))
      → (number ≤ last_number version) × (length (batch_rows world origin number) ≤ most_batch_rows version)
  rows_within version keeps origin number knows_it =
      let found = known_rows origin number knows_it in
      let here : batch_rows world origin number ≡ found.0 = ap (λ o. unwrap_or o []) found.1 in
      let bounds = keeps origin number found.0 knows_it found.1 in
      (bounds.0, subst (λ (rows : List Row). length rows ≤ most_batch_rows version) (sym here) bounds.1)

  number_within : (version : Version) → IsKnownWithin version world known → (origin : ℕ) → prefix known origin ≤ last_number version
  number_within version keeps origin =
      elim (cases_lt 0 (prefix known origin)) [
        | inl some ↦ (rows_within version keeps origin (prefix known origin) (prefix_unbroken known origin (prefix known origin)
            (omega (arith, some)) (omega arith))).0
        | inr none ↦ omega (arith, none)
      ]

  few_within : (version : Version) → IsKnownWithin version world known → (origin : ℕ) → length (rows_of_prefix origin) ≤ prefix known origin
      * most_batch_rows version
  few_within version keeps origin =
      subst (λ m. length (rows_of_prefix origin) ≤ m * most_batch_rows version) (count_length 1 (prefix known origin))
      (few_counted world origin (most_batch_rows version) 1 (prefix known origin)
      (λ number low high. (rows_within version keeps origin number (prefix_unbroken known origin number low (omega (arith, high)))).1))

  part_within : (version : Version) → IsKnownWithin version world known → (origin : ℕ)
      → IsWithin version query (world_part query world known origin).1
  part_within version keeps origin =
      let most : ℕ = prefix known origin * most_batch_rows version in
      let have : AllByRecursion (HasKinds (kinds query.columns)) (rows_of_prefix origin) = rows_kinds (kinds query.columns) world is_world
      origin (count_up 1 (prefix known origin)) in
      let few : length (rows_of_prefix origin) ≤ most = few_within version keeps origin in
      record {
        prefix = number_within version keeps origin;
        run = record {
          groups = part (meaning query) (rows_of_prefix origin);
          are = groups_stand (meaning query) most (rows_of_prefix origin) is_query.well_formed have few;
          rises = groups_rise (meaning query) most (rows_of_prefix origin) is_query.well_formed have few;
        };
        few = groups_few (meaning query) most (rows_of_prefix origin) is_query.well_formed have few;
        early = each_mapped (IsBatchWithin version) (numbered world origin) (early known origin) (λ number listed.
            let bounds = rows_within version keeps origin number (early_known origin number listed).0 in
            record {
              number = bounds.0;
              rows = subst (λ n. n ≤ most_batch_rows version)
                  (sym (length-map (batch_rows world origin number) packing)) bounds.1;
            });
      }

  -- and so within those of the second
  is_second : IsKnownWithin Second world known
  is_second = second_keeps query world known is_world

  prefix_groups : (origin : ℕ) → AreGroups (meaning query) (prefix known origin * MAX_ROWS)
      (run_bytes (part (meaning query) (rows_of_prefix origin))) (part (meaning query) (rows_of_prefix origin))
  prefix_groups origin =
      groups_stand (meaning query) (prefix known origin * MAX_ROWS) (rows_of_prefix origin) is_query.well_formed
      (rows_kinds (kinds query.columns) world is_world origin (count_up 1 (prefix known origin))) (few_within Second is_second origin)

  is_part : (origin : ℕ) → IsPartOf query (world_part query world known origin).1
  is_part origin =
      let within = part_within Second is_second origin in
      record {
        within = within.prefix;
        run = within.run;
        few = within.few;
        rising = subst (IsStrictlySortedBy nat_cmp) (sym (numbers_back (λ n. packings (batch_rows world origin n)) (early known origin)))
            (early_rise known origin);
        early = each_mapped (IsEarly (kinds query.columns) (prefix known origin)) (numbered world origin) (early known origin)
            (is_early origin);
      }

  -- it fits the world
  abbrev IsOfWorld : ℕ → ℕ × List (List ℕ) → Type 0
  IsOfWorld origin batch = (those : List Row) × (world origin batch.0 ≡ Some those) × (batch.1 ≡ packings those)

  of_early : (origin number : ℕ) → Member (early known origin) number → IsOfWorld origin (numbered world origin number)
  of_early origin number listed =
      let found = known_rows origin number (early_known origin number listed).0 in
      (found.0, found.1, ap (λ o. packings (unwrap_or o [])) found.1)

  pub part_fits : (origin : ℕ) → FitsOrigin (meaning query) world origin (world_part query world known origin).1
  part_fits origin =
      record {
        there = λ number low high. of_world.there origin number (prefix_unbroken known origin number low high);
        run = prefix_groups origin;
        early = λ number rows found.
            found_holds (IsOfWorld origin) (map (numbered world origin) (early known origin)) number rows
            (each_mapped (IsOfWorld origin) (numbered world origin) (early known origin) (of_early origin)) found;
      }

  -- it may be held
  some_known : (origin number : ℕ) → IsTrue (knows known (origin, number)) → (0 < prefix known origin)
      ⊎ (map (numbered world origin) (early known origin) ≢ [])
  some_known origin number knows_it =
      elim (cases_lt (prefix known origin) number) [
        | inl above ↦ inr (some_mapped (numbered world origin) (early known origin) number
            (from_contains (early known origin) number ((early_are known origin number).1 (knows_it, above))))
        | inr below ↦ inl (let low = known_from_one origin number knows_it in omega (arith, low, below))
      ]

  is_held : (origin : ℕ) → Member (origins known) origin → IsHeldPart query (world_part query world known origin)
  is_held origin listed =
      let told = (origins_are known origin).0 (to_contains (origins known) origin listed) in
      let found = known_rows origin told.0 told.1 in
      record { within = (is_world origin told.0 found.0 found.1).0; part = is_part origin; some = some_known origin told.0 told.1 }

  pub are_held : AreHeldParts query (world_parts query world known)
  are_held =
      record {
        rising = subst (IsStrictlySortedBy nat_cmp) (sym (numbers_back (λ origin. (world_part query world known origin).1) (origins known)))
            (origins_rise known);
        each = each_mapped (IsHeldPart query) (world_part query world known) (origins known) is_held;
      }

  pub parts_within : (version : Version) → IsKnownWithin version world known → AreWithin version query (world_parts query world known)
  parts_within version keeps = each_mapped (λ (held : ℕ × Part). IsWithin version query held.1) (world_part query world known)
      (origins known) (λ origin listed. part_within version keeps origin)

  -- the file is read as these parts
  pub world_read : (version : Version) → IsKnownWithin version world known → IsUtf8 (spelling (by_names query))
      → IsSummaryIn version (world_file_in version query world known) query (world_parts query world known)
  world_read version keeps utf8 = read_again version query (world_parts query world known) is_query
      (schema_text query.columns is_query.columns_are) utf8 are_held (parts_within version keeps)
