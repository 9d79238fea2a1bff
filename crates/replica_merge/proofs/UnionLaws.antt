-- Runs of several origins that are united, the one with the other.
use Rattle.std.specs.Prelude.{◌≡◌, refl, ℕ, ◌+◌, ◌*◌, ◌≤◌, List, [], ◌∷◌, ◌++◌}
use Rattle.std.specs.Borrow.{Bor}
use Rattle.std.specs.List.{AllByRecursion}
use Rattle.std.specs.List.Sorted.{IsStrictlySortedBy}
use Rattle.std.proofs.Common.{sym, ◌∙◌, ap, subst, arith, append-nil}
use Rattle.std.proofs.lemmas.List.{map-append}
use Rattle.std.proofs.lemmas.List.Sums.{sum_by-cons, sum_by-append}
use Rattle.std.proofs.lemmas.Grind.{flat_map-append}
use Rattle.replica_merge.specs.Lemmas.Words.{each_front, each_behind, MAX_ROWS, Row, row_cmp, Query, part, AreGroups, IsRun, Part, counted}
use Rattle.replica_merge.specs.Lemmas.Words.{brought_by, IsRunAlone, IsUnion}
use Rattle.grouping_model.specs.Parts.{keys_of}
use Rattle.agg_protocol.specs.States.{most_rows}
use Rattle.packed_rows.specs.ConcatenatedRows.{concatenated}
use Rattle.group_runs.specs.Adding.{groups_added}
use Rattle.group_runs.specs.MergeLaws.{puts_rise, keys_of-groups_added}
use Rattle.group_runs.specs.Runs.{Entry, Rises}
use Rattle.group_runs.specs.Steps.{AddsRun, HasRoomForRun}
use Rattle.group_runs.specs.Lemmas.MergeLaws.{groups_added_part}
use Rattle.group_runs.specs.Lemmas.SpliceLaws.{packed_rise}
use Rattle.hash_agg.specs.Inputs.{Brought, Counted, rows_in, all_rows, AreInputsOf, IsInput}
use Rattle.hash_agg.specs.Lemmas.FoldLaws.{run_keys_rise}
use Rattle.replica_merge.proofs.KeyLaws.{AreOfRuns, keys_of_one, keys_of_both}

-- lists of rows for which inputs of two lists stand
record BothStand (q : Query) (xs ys : List Brought) (lists : List (List Row)) : Type 0 where
  fronts : List (List Row)
  backs : List (List Row)
  both : lists ≡ fronts ++ backs
  front : AreInputsOf q xs fronts
  back : AreInputsOf q ys backs

both_stand : (q : Query) (xs ys : List Brought) (lists : List (List Row)) → AreInputsOf q (xs ++ ys) lists → BothStand q xs ys lists
both_stand q [] ys lists are = record { fronts = []; backs = lists; both = refl; front = tt; back = are }
both_stand q (x ∷ xs) ys [] are = absurd are
both_stand q (x ∷ xs) ys (rows ∷ lists) are =
    let rest : BothStand q xs ys lists = both_stand q xs ys lists are.1 in
    record {
      fronts = rows ∷ rest.fronts;
      backs = rest.backs;
      both = ap (λ those. rows ∷ those) rest.both;
      front = (are.0, rest.front);
      back = rest.back;
    }

-- one run is the union of what it brings
pub one_union : (q : Query) (run : List Entry) (rows : ℕ) → IsRun q rows run → IsUnion q (Counted run rows ∷ []) run
one_union q run rows is =
    record {
      part = one;
      keys = keys_of_one q run rows is.rises;
      is_run = subst (λ n. IsRun q n run) (sym total) is;
    }
  where
    total : all_rows (Counted run rows ∷ []) ≡ rows
    total = let sum : all_rows (Counted run rows ∷ []) ≡ rows + 0 = sum_by-cons rows_in (Counted run rows) [] in omega (arith, sum)

    one : (lists : List (List Row)) → AreInputsOf q (Counted run rows ∷ []) lists
        → AreGroups q (all_rows (Counted run rows ∷ [])) run (part q (concatenated lists))
    one [] are = absurd are
    one (these ∷ []) are =
        subst (λ n. AreGroups q n run (part q (these ++ []))) (sym total)
        (subst (λ all. AreGroups q rows run (part q all)) (sym (append-nil these)) are.0)
    one (these ∷ more ∷ lists) are = absurd are.1

-- the union of some inputs, to which that of others is added
module _ (q : Query) (xs ys : List Brought) (a b c : List Entry) (few : all_rows (xs ++ ys) ≤ most_rows) (left : IsUnion q xs a)
    (right : IsUnion q ys b) where
  total : all_rows (xs ++ ys) ≡ all_rows xs + all_rows ys
  total = sum_by-append rows_in xs ys

  low : all_rows xs + all_rows ys ≤ most_rows
  low = subst (λ n. n ≤ most_rows) total few

  pub union_room : HasRoomForRun q a b
  union_room = (
    all_rows xs,
    all_rows ys,
    left.is_run.groups,
    right.is_run.groups,
    left.is_run.are,
    right.is_run.are,
    right.is_run.rises,
    low,
  )

  added_groups : AddsRun q a b c → AreGroups q (all_rows xs + all_rows ys) c (groups_added q left.is_run.groups right.is_run.groups)
  added_groups added = added (all_rows xs) (all_rows ys) left.is_run.groups right.is_run.groups low left.is_run.are right.is_run.are

  added_rises : AddsRun q a b c → Rises c
  added_rises added =
      packed_rise q (all_rows xs + all_rows ys) c (groups_added q left.is_run.groups right.is_run.groups) (added_groups added)
      (subst (IsStrictlySortedBy row_cmp) (sym (keys_of-groups_added q left.is_run.groups right.is_run.groups))
      (puts_rise (keys_of left.is_run.groups) (keys_of right.is_run.groups) (run_keys_rise q (all_rows xs) a left.is_run.groups
      left.is_run.are left.is_run.rises)))

  added_part : AddsRun q a b c → (lists : List (List Row)) → AreInputsOf q (xs ++ ys) lists
      → AreGroups q (all_rows (xs ++ ys)) c (part q (concatenated lists))
  added_part added lists are =
      let stand : BothStand q xs ys lists = both_stand q xs ys lists are in
      let rows : concatenated lists ≡ concatenated stand.fronts ++ concatenated stand.backs = ap concatenated stand.both
      ∙ flat_map-append (λ (row : List Row). row) stand.fronts stand.backs in
      subst (λ n. AreGroups q n c (part q (concatenated lists))) (sym total)
      (subst (λ those. AreGroups q (all_rows xs + all_rows ys) c (part q those)) (sym rows)
      (subst (AreGroups q (all_rows xs + all_rows ys) c) (groups_added_part q (concatenated stand.fronts) (concatenated stand.backs))
      (added (all_rows xs) (all_rows ys) (part q (concatenated stand.fronts)) (part q (concatenated stand.backs)) low
      (left.part stand.fronts stand.front) (right.part stand.backs stand.back))))

  pub added_union : AreOfRuns xs → AreOfRuns ys → AddsRun q a b c → IsUnion q (xs ++ ys) c
  added_union xs_are ys_are added =
      record {
        part = added_part added;
        keys = keys_of_both q xs ys a b c (all_rows xs) (all_rows ys) left.is_run.groups right.is_run.groups xs_are ys_are left.is_run.are
            right.is_run.are (added_groups added) left.keys right.keys;
        is_run =
            record {
              groups = groups_added q left.is_run.groups right.is_run.groups;
              are = subst (λ n. AreGroups q n c (groups_added q left.is_run.groups right.is_run.groups)) (sym total) (added_groups added);
              rises = added_rises added;
            };
      }

-- ---- a single part

-- a single part
pub one_part : (q : Query) (parts : List (Bor Part)) (run : List Entry) → AllByRecursion (IsInput q) (brought_by parts)
    → IsRunAlone parts run → IsUnion q (brought_by parts) run
one_part q parts run inputs is =
    subst (λ those. IsUnion q (brought_by those) run) (sym is.alone)
    (subst (IsUnion q (brought_by (is.only ∷ []))) (sym is.run_is)
    (one_union q is.only.now.run (is.only.now.prefix * MAX_ROWS) (subst (λ those. AllByRecursion (IsInput q) (brought_by those)) is.alone
    inputs).0))
