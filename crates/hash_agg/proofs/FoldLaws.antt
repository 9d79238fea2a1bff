-- A run that takes the groups of another.
use Rattle.std.specs.Prelude.{◌≡◌, ℕ, ◌+◌, ◌<◌, ◌≤◌, cond, true, false, ◌||◌, List, [], ◌∷◌, ◌++◌, length, map}
use Rattle.std.proofs.Common.{sym, ◌∙◌, ap, subst, arith}
use Rattle.std.proofs.lemmas.List.{length-map, length-append}
use Rattle.std.proofs.lemmas.List.Sums.{sum_by-cons}
use Rattle.std.specs.declared.cmp.Ordering.TheVariants.{Less, Equal, Greater}
use Rattle.std.specs.Ordering.{match_ordering}
use Rattle.std.specs.List.{AllByRecursion}
use Rattle.std.specs.List.Sorted.{IsStrictlySortedBy}
use Rattle.hash_agg.proofs.Words.{each_append, Row, HasKinds, row_cmp, put, distinct, is_among, is_met, Query, Group, part, selected}
use Rattle.hash_agg.proofs.Words.{column_of, keys_of, packing, key_kinds, Entry, packed_keys, Rises, AreGroups, IsRun, concatenated}
use Rattle.hash_agg.proofs.Words.{Brought, Packed, Counted, rows_in, all_rows, AreInputsOf, AllBring, IsAggregate, IsRunOver, groups_added}
use Rattle.hash_agg.proofs.Words.{AddsRun}
use Rattle.grouping_model.specs.Rising.Facts.{distinct-rises, among-distinct, among-append, same_members}
use Rattle.grouping_model.specs.Grouping.{key_of}
use Rattle.grouping_model.specs.DatumOrderLaws.{row_cmp_total, row_cmp_ties}
use Rattle.agg_protocol.specs.States.{most_rows}
use Rattle.hash_agg.specs.Lemmas.KeyLaws.{key_has}
use Rattle.group_runs.specs.MergeLaws.{puts, puts_rise, keys_of-groups_added}
use Rattle.group_runs.specs.Lemmas.MergeLaws.{puts_long, among-puts, groups_added_part}
use Rattle.group_runs.specs.StandingLaws.{keys_packed, keys_of_kinds}
use Rattle.hash_agg.proofs.WholeLaws.{packings_once, keys_few}
use Rattle.group_runs.specs.Lemmas.SpliceLaws.{packed_rise}
use Rattle.hash_agg.specs.Lemmas.FoldLaws.{run_keys_rise}

-- ---- the kinds of keys

all_put : (P : Row → Type 0) (k : Row) (ks : List Row) → P k → AllByRecursion P ks → AllByRecursion P (put row_cmp k ks)
all_put P k [] p all = (p, tt)
all_put P k (l ∷ ks) p (first, all) =
    elim (row_cmp k l) as (λ r. AllByRecursion P (match_ordering r (k ∷ l ∷ ks) (l ∷ ks) (l ∷ put row_cmp k ks))) [
      | Less ↦ (p, (first, all))
      | Equal ↦ (first, all)
      | Greater ↦ (first, all_put P k ks p all)
    ]

all_distinct : (P : Row → Type 0) (ks : List Row) → AllByRecursion P ks → AllByRecursion P (distinct row_cmp ks)
all_distinct P [] all = tt
all_distinct P (k ∷ ks) (p, all) = all_put P k (distinct row_cmp ks) p (all_distinct P ks all)

selected_keys : (q : Query) (rows : List Row) → AllByRecursion (λ place. place < length q.kinds) q.keys
    → AllByRecursion (HasKinds q.kinds) rows → AllByRecursion (HasKinds (key_kinds q)) (map (key_of q) (selected q rows))
selected_keys q [] within has = tt
selected_keys q (row ∷ rows) within (first, has) =
    elim (is_met (column_of row) q.condition) as (λ b. AllByRecursion (HasKinds (key_kinds q))
    (map (key_of q) (cond b (row ∷ selected q rows) (selected q rows)))) [
      | true ↦ (key_has q row within first, selected_keys q rows within has)
      | false ↦ selected_keys q rows within has
    ]

-- the keys that inputs bring have the kinds of the query's keys
brought_kinds : (q : Query) (inputs : List Brought) (lists : List (List Row)) → AllByRecursion (λ place. place < length q.kinds) q.keys
    → AllBring q inputs lists → AllByRecursion (HasKinds (key_kinds q)) (concatenated lists)
brought_kinds q [] [] within bring = tt
brought_kinds q [] (ks ∷ lists) within bring = absurd bring
brought_kinds q (x ∷ inputs) [] within bring = absurd bring
brought_kinds q (Packed packed ∷ inputs) (ks ∷ lists) within (one, bring) =
    each_append (HasKinds (key_kinds q)) ks (concatenated lists) (subst (AllByRecursion (HasKinds (key_kinds q))) (sym one.2)
    (selected_keys q one.0 within one.1.of_kinds)) (brought_kinds q inputs lists within bring)
brought_kinds q (Counted run most ∷ inputs) (ks ∷ lists) within (one, bring) =
    each_append (HasKinds (key_kinds q)) ks (concatenated lists) one.of_kinds (brought_kinds q inputs lists within bring)

-- ---- a run and what inputs gave

-- a run has as many entries as groups
as_many : (q : Query) (most : ℕ) (run : List Entry) (groups : List Group) → AreGroups q most run groups → length run
    ≡ length (keys_of groups)
as_many q most run groups are =
    sym (length-map run (λ (e : Entry). e.0)) ∙ ap length (keys_packed q most run groups are) ∙ length-map (keys_of groups) packing

-- keys that are put to rising ones
puts_distinct : (ks ls : List Row) → IsStrictlySortedBy row_cmp ks → puts ks (distinct row_cmp ls) ≡ distinct row_cmp (ks ++ ls)
puts_distinct ks ls rising =
    same_members row_cmp_total row_cmp_ties (puts ks (distinct row_cmp ls)) (distinct row_cmp (ks ++ ls))
    (puts_rise ks (distinct row_cmp ls) rising) (distinct-rises row_cmp_total (ks ++ ls))
    (λ key.
    among-puts key ks (distinct row_cmp ls)
    ∙ ap (λ b. is_among row_cmp key ks || b) (among-distinct row_cmp_total key ls)
    ∙ sym (among-append row_cmp key ks ls)
    ∙ sym (among-distinct row_cmp_total key (ks ++ ls)))

module _ (q : Query) (rows : ℕ) (old more new : List Entry) (inputs : List Brought) (low : rows + all_rows inputs ≤ most_rows)
    (is : IsRun q rows old) (more_is : IsRun q (all_rows inputs) more) (added : AddsRun q old more new) where
  total : rows + all_rows inputs ≡ all_rows (Counted old rows ∷ inputs)
  total = sym (sum_by-cons rows_in (Counted old rows) inputs)

  folded_groups : AreGroups q (rows + all_rows inputs) new (groups_added q is.groups more_is.groups)
  folded_groups = added rows (all_rows inputs) is.groups more_is.groups low is.are more_is.are

  folded_rises : Rises new
  folded_rises =
      packed_rise q (rows + all_rows inputs) new (groups_added q is.groups more_is.groups) folded_groups
      (subst (IsStrictlySortedBy row_cmp) (sym (keys_of-groups_added q is.groups more_is.groups))
      (puts_rise (keys_of is.groups) (keys_of more_is.groups) (run_keys_rise q rows old is.groups is.are is.rises)))

  folded_is_run : IsRun q (all_rows (Counted old rows ∷ inputs)) new
  folded_is_run =
      record {
        groups = groups_added q is.groups more_is.groups;
        are = subst (λ n. AreGroups q n new (groups_added q is.groups more_is.groups)) total folded_groups;
        rises = folded_rises;
      }

  folded_few : length new ≤ length old + length more
  folded_few =
      let now : length new ≡ length (keys_of (groups_added q is.groups more_is.groups)) = as_many q (rows + all_rows inputs) new
      (groups_added q is.groups more_is.groups) folded_groups in
      let had : length old ≡ length (keys_of is.groups) = as_many q rows old is.groups is.are in
      let came : length more ≡ length (keys_of more_is.groups) = as_many q (all_rows inputs) more more_is.groups more_is.are in
      let put : length (keys_of (groups_added q is.groups more_is.groups)) ≡ length (puts (keys_of is.groups) (keys_of more_is.groups)) = ap
      length (keys_of-groups_added q is.groups more_is.groups) in
      let long : length (puts (keys_of is.groups) (keys_of more_is.groups)) ≤ length (keys_of is.groups)
      + length (keys_of more_is.groups) = puts_long (keys_of is.groups) (keys_of more_is.groups) in
      omega (arith, now, had, came, put, long)

-- what is folded over any disk
pub folded_over : (q : Query) (rows : ℕ) (old more new : List Entry) (inputs : List Brought) → rows + all_rows inputs ≤ most_rows
    → IsRun q rows old → IsRunOver q inputs more → AddsRun q old more new
    → IsRunOver q (Counted old rows ∷ inputs) new
folded_over q rows old more new inputs low is given added =
    record {
      is_run = folded_is_run q rows old more new inputs low is given.is_run added;
      few = λ lists bring. few lists bring;
    }
  where
    few : (lists : List (List Row)) → AllBring q (Counted old rows ∷ inputs) lists → length new ≤ length (concatenated lists)
    few [] bring = absurd bring
    few (ks ∷ lists) (one, bring) =
        let all : length new ≤ length old + length more = folded_few q rows old more new inputs low is given.is_run added in
        let came : length more ≤ length (concatenated lists) = given.few lists bring in
        let had : length old ≡ length ks = sym (length-map old (λ (e : Entry). e.0)) ∙ ap length one.packings_are ∙ length-map ks packing in
        let both : length (ks ++ concatenated lists) ≡ length ks + length (concatenated lists) = length-append ks (concatenated lists) in
        omega (arith, all, came, had, both)

module _ (q : Query) (rows : ℕ) (old more new : List Entry) (inputs : List Brought) (low : rows + all_rows inputs ≤ most_rows)
    (is : IsRun q rows old) (given : IsAggregate q inputs more) (added : AddsRun q old more new) where
  folded_part : (lists : List (List Row)) → AreInputsOf q (Counted old rows ∷ inputs) lists
      → AreGroups q (all_rows (Counted old rows ∷ inputs)) new (part q (concatenated lists))
  folded_part [] are = absurd are
  folded_part (xs ∷ lists) (first, are) =
      subst (λ n. AreGroups q n new (part q (xs ++ concatenated lists))) (sym (sum_by-cons rows_in (Counted old rows) inputs))
      (subst (AreGroups q (rows + all_rows inputs) new) (groups_added_part q xs (concatenated lists))
      (added rows (all_rows inputs) (part q xs) (part q (concatenated lists)) low first (given.part lists are)))

  folded_keys : AllByRecursion (λ place. place < length q.kinds) q.keys → (lists : List (List Row))
      → AllBring q (Counted old rows ∷ inputs) lists → packed_keys new ≡ map packing (distinct row_cmp (concatenated lists))
  folded_keys within [] bring = absurd bring
  folded_keys within (ks ∷ lists) (one, bring) =
      let had : keys_of is.groups ≡ ks =
      packings_once (key_kinds q) (keys_of is.groups) ks (keys_of_kinds q rows old is.groups is.are) one.of_kinds
      (sym (keys_packed q rows old is.groups is.are) ∙ one.packings_are) in
      let came : keys_of given.is_run.groups ≡ distinct row_cmp (concatenated lists) =
      packings_once (key_kinds q) (keys_of given.is_run.groups) (distinct row_cmp (concatenated lists))
      (keys_of_kinds q (all_rows inputs) more given.is_run.groups given.is_run.are)
      (all_distinct (HasKinds (key_kinds q)) (concatenated lists) (brought_kinds q inputs lists within bring))
      (sym (keys_packed q (all_rows inputs) more given.is_run.groups given.is_run.are) ∙ given.keys lists bring) in
      keys_packed q (rows + all_rows inputs) new (groups_added q is.groups given.is_run.groups)
      (folded_groups q rows old more new inputs low is given.is_run added)
      ∙ ap (map packing)
      (keys_of-groups_added q is.groups given.is_run.groups
      ∙ (λ i. puts (had i) (came i))
      ∙ puts_distinct ks (concatenated lists) (subst (IsStrictlySortedBy row_cmp) had (run_keys_rise q rows old is.groups is.are is.rises)))

  pub folded : AllByRecursion (λ place. place < length q.kinds) q.keys → IsAggregate q (Counted old rows ∷ inputs) new
  folded within =
      record {
        part = folded_part;
        keys = folded_keys within;
        few = λ lists bring. keys_few new (concatenated lists) (folded_keys within lists bring);
        is_run = folded_is_run q rows old more new inputs low is given.is_run added;
      }
