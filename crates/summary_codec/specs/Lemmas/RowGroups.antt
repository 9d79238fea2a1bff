-- The groups of rows: their partial results are states, and their bytes are a run of at most as many groups as there are rows.
use Rattle.std.specs.Prelude.{◌≡◌, refl, ℕ, ◌≤◌, Bool, true, false, cond, List, [], ◌∷◌, map, filter, length}
use Rattle.std.proofs.Common.{sym, subst, inl, inr, arith}
use Rattle.std.proofs.lemmas.List.{length-map}
use Rattle.std.proofs.lemmas.List.Sums.{length-filter, count_by-le-length}
use Rattle.std.specs.declared.cmp.Ordering.{Ordering}
use Rattle.std.specs.declared.cmp.Ordering.TheVariants.{Less, Equal, Greater}
use Rattle.std.specs.Ordering.{match_ordering}
use Rattle.std.specs.List.{AllByRecursion}
use Rattle.std.specs.List.Sorted.{IsStrictlySortedBy}
use Rattle.summary_codec.specs.Lemmas.Words.{Datum, Kind, Row, HasKinds, row_cmp, same_row, argument, arguments, column_of, key_of, keys}
use Rattle.summary_codec.specs.Lemmas.Words.{partials, selected, Query, Aggregate, IsState, shape_of, rows_of, IsWellFormed, TakesRows}
use Rattle.summary_codec.specs.Lemmas.Words.{key_kinds, Rises, AreGroups, run_bytes, IsGroupOf}
use Rattle.grouping_model.specs.Aggregates.{partial}
use Rattle.grouping_model.specs.Condition.{is_met}
use Rattle.grouping_model.specs.DatumOrderLaws.{row_cmp_total}
use Rattle.grouping_model.specs.Grouping.{group, part}
use Rattle.grouping_model.specs.MemberLaws.{Member}
use Rattle.grouping_model.specs.Parts.{functions}
use Rattle.grouping_model.specs.Rising.{put, distinct}
use Rattle.grouping_model.specs.Rising.Facts.{distinct-rises}
use Rattle.grouping_model.specs.Lemmas.PartLaws.{keys_of-part}
use Rattle.agg_protocol.specs.Arguments.{Takes}
use Rattle.agg_protocol.specs.DenotingLaws.{within}
use Rattle.agg_protocol.specs.Lemmas.ArgumentLaws.{partial_state, rows_within}
use Rattle.group_runs.specs.Standing.{group_bytes}
use Rattle.group_runs.specs.Lemmas.MergeLaws.{distinct_few}
use Rattle.group_runs.specs.Lemmas.SpliceLaws.{packed_rise}
use Rattle.agg_library.specs.StateRows.{ArePartials}
use Rattle.group_runs.specs.StandingLaws.{spelled_stands}
use Rattle.hash_agg.specs.Lemmas.KeyLaws.{key_has}

-- ---- members of lists

-- what holds of each member holds of each
pub each_mapped : {X Y : Type 0} (P : Y → Type 0) (f : X → Y) (xs : List X) → ((x : X) → Member xs x → P (f x))
    → AllByRecursion P (map f xs)
each_mapped P f [] all = tt
each_mapped P f (x ∷ xs) all = (all x (inl refl), each_mapped P f xs (λ y m. all y (inr m)))

-- some of a list
each_kept : {X : Type 0} (P : X → Type 0) (t : X → Bool) (xs : List X) → AllByRecursion P xs → AllByRecursion P (filter t xs)
each_kept P t [] all = tt
each_kept P t (x ∷ xs) (one, all) =
    elim (t x) as (λ b. AllByRecursion P (cond b (x ∷ filter t xs) (filter t xs))) [
      | true ↦ (one, each_kept P t xs all)
      | false ↦ each_kept
          P t xs all
    ]

kept_few : {X : Type 0} (t : X → Bool) (xs : List X) → length (filter t xs) ≤ length xs
kept_few t xs = omega (arith, length-filter t xs, count_by-le-length t xs)

-- the distinct ones of a list
each_put : {X : Type 0} (cmp : X → X → Ordering) (P : X → Type 0) (x : X) (ys : List X) → P x → AllByRecursion P ys
    → AllByRecursion P (put cmp x ys)
each_put cmp P x [] one all = (one, tt)
each_put cmp P x (y ∷ ys) one (first, all) =
    elim (cmp x y) as (λ r. AllByRecursion P (match_ordering r (x ∷ y ∷ ys) (y ∷ ys) (y ∷ put cmp x ys))) [
      | Less ↦ (one, (first, all))
      | Equal ↦ (first, all)
      | Greater ↦ (first, each_put cmp P x ys one all)
    ]

each_distinct : {X : Type 0} (cmp : X → X → Ordering) (P : X → Type 0) (xs : List X) → AllByRecursion P xs
    → AllByRecursion P (distinct cmp xs)
each_distinct cmp P [] all = tt
each_distinct cmp P (x ∷ xs) (one, all) = each_put cmp P x (distinct cmp xs) one (each_distinct cmp P xs all)

-- ---- the partial results of rows

arguments_taken : (kinds : List Kind) (a : Aggregate) (rows : List Row) → TakesRows kinds a → AllByRecursion (HasKinds kinds) rows
    → AllByRecursion (Takes a.function) (arguments a rows)
arguments_taken kinds a [] takes has = tt
arguments_taken kinds a (row ∷ rows) takes (one, has) =
    let reached : Row → Bool = λ row. is_met (column_of row) a.filter in
    elim (reached row) as (λ b. AllByRecursion (Takes a.function)
    (map (argument a.column) (cond b (row ∷ filter reached rows) (filter reached rows)))) [
      | true ↦ (takes.takes row one, arguments_taken kinds a rows takes has)
      | false ↦ arguments_taken kinds a rows takes has
    ]

arguments_few : (a : Aggregate) (rows : List Row) → length (arguments a rows) ≤ length rows
arguments_few a rows =
    let reached : List Row = filter (λ row. is_met (column_of row) a.filter) rows in
    let same : length (arguments a rows) ≡ length reached = length-map reached (argument a.column) in
    let few : length reached ≤ length rows = kept_few (λ row. is_met (column_of row) a.filter) rows in
    omega (arith, same, few)

-- the partial results of rows are those of states that count at most as many rows
partials_are : (q : Query) (most : ℕ) (rows : List Row) → IsWellFormed q → AllByRecursion (HasKinds q.kinds) rows → length rows ≤ most
    → ArePartials most (functions q) (partials q rows)
partials_are q most rows formed has few = each q.aggregates formed.aggregates
  where
    one : (a : Aggregate) → TakesRows q.kinds a → IsState most (shape_of a.function) (partial a.function (arguments a rows))
    one a takes =
        let xs : List Datum = arguments a rows in
        let counted : rows_of (partial a.function xs) ≤ length xs = rows_within a.function xs in
        let short : length xs ≤ length rows = arguments_few a rows in
        within (length xs) most (shape_of a.function) (partial a.function xs)
        (partial_state a.function xs (arguments_taken q.kinds a rows takes has)) (omega (arith, counted, short, few))

    each : (calls : List Aggregate) → AllByRecursion (TakesRows q.kinds) calls
        → ArePartials most (map (λ (a : Aggregate). a.function) calls) (map (λ a. partial a.function (arguments a rows)) calls)
    each [] takes = tt
    each (a ∷ calls) (first, takes) = (one a first, each calls takes)

-- ---- the groups of rows

module _ (q : Query) (most : ℕ) (rows : List Row) (formed : IsWellFormed q) (has : AllByRecursion (HasKinds q.kinds) rows)
    (few : length rows ≤ most) where
  selected_have : AllByRecursion (HasKinds q.kinds) (selected q rows)
  selected_have = each_kept (HasKinds q.kinds) (λ row. is_met (column_of row) q.condition) rows has

  selected_few : length (selected q rows) ≤ length rows
  selected_few = kept_few (λ row. is_met (column_of row) q.condition) rows

  keys_have : AllByRecursion (HasKinds (key_kinds q)) (keys q rows)
  keys_have = each_distinct row_cmp (HasKinds (key_kinds q)) (map (key_of q) (selected q rows)) (each (selected q rows) selected_have)
    where
      each : (these : List Row) → AllByRecursion (HasKinds q.kinds) these → AllByRecursion (HasKinds (key_kinds q)) (map (key_of q) these)
      each [] all = tt
      each (row ∷ these) (one, all) = (key_has q row formed.keys one, each these all)

  groups_are : AllByRecursion (IsGroupOf q most) (part q rows)
  groups_are = each (keys q rows) keys_have
    where
      group_few : (key : Row) → length (group q rows key) ≤ most
      group_few key =
          let inner : length (group q rows key) ≤ length (selected q rows) = kept_few (λ row. same_row (key_of q row) key) (selected q rows)
          in
          let outer : length (selected q rows) ≤ length rows = selected_few in
          omega (arith, inner, outer, few)

      each : (ks : List Row) → AllByRecursion (HasKinds (key_kinds q)) ks
          → AllByRecursion (IsGroupOf q most) (map (λ key. (key, partials q (group q rows key))) ks)
      each [] all = tt
      each (key ∷ ks) (one, all) = (
        record {
          key = one;
          partials = partials_are q most (group q rows key) formed
              (each_kept (HasKinds q.kinds) (λ row. same_row (key_of q row) key) (selected q rows) selected_have) (group_few key);
        },
        each ks all,
      )

  -- the bytes of the groups stand for them, and rise
  pub groups_stand : AreGroups q most (run_bytes (part q rows)) (part q rows)
  groups_stand = spelled_stands q most (part q rows) groups_are

  pub groups_rise : Rises (run_bytes (part q rows))
  groups_rise =
      packed_rise q most (run_bytes (part q rows)) (part q rows) groups_stand
      (subst (IsStrictlySortedBy row_cmp) (sym (keys_of-part q rows)) (distinct-rises row_cmp_total (map (key_of q) (selected q rows))))

  -- there are no more of them than rows
  pub groups_few : length (run_bytes (part q rows)) ≤ most
  groups_few =
      let bytes : length (run_bytes (part q rows)) ≡ length (part q rows) = length-map (part q rows) group_bytes in
      let keyed : length (part q rows) ≡ length (keys q rows) = length-map (keys q rows) (λ key. (key, partials q (group q rows key))) in
      let distinct_ones : length (keys q rows) ≤ length (map (key_of q) (selected q rows)) = distinct_few (map (key_of q) (selected q rows))
      in
      let mapped : length (map (key_of q) (selected q rows)) ≡ length (selected q rows) = length-map (selected q rows) (key_of q) in
      let outer : length (selected q rows) ≤ length rows = selected_few in
      omega (arith, bytes, keyed, distinct_ones, mapped, outer, few)
