-- The states of one group, moved on by a row.
use Rattle.std.specs.Prelude.{◌≡◌, refl, ℕ, ◌+◌, ◌<◌, ◌≤◌, if◌then◌else◌, List, [], ◌∷◌, ◌++◌, length, map, take, drop, Option, Some, None}
use Rattle.std.specs.Prelude.{option_map, slice_get}
use Rattle.std.proofs.Common.{sym, ◌∙◌, ap, subst, arith}
use Rattle.grouping_model.specs.Aggregates.{Function, Partial}
use Rattle.grouping_model.specs.Condition.{is_met}
use Rattle.grouping_model.specs.Datum.{HasKinds, Kind, Row}
use Rattle.grouping_model.specs.Grouping.{argument, column_of}
use Rattle.grouping_model.specs.Parts.{advanced}
use Rattle.grouping_model.specs.Query.{Aggregate}
use Rattle.packed_rows.specs.View.{datum_of}
use Rattle.packed_rows.specs.declared.value.Value.{Value}
use Rattle.agg_protocol.specs.Arguments.{Takes}
use Rattle.agg_protocol.specs.Kinds.{function_of, functions_of, kind_shape, kind_width}
use Rattle.agg_protocol.specs.States as states
use Rattle.agg_protocol.specs.States.{Shape, most_rows, rows_of}
use Rattle.agg_protocol.specs.DenotingLaws.{within, state_rows}
use Rattle.agg_protocol.specs.Lemmas.Denoting.{once}
use Rattle.agg_protocol.specs.declared.kind.AggKind.{AggKind}
use Rattle.agg_library.specs.StateRows.{DenotesAll, partial_after}
use Rattle.agg_library.specs.StateRowLaws.{joined, raised}
use Rattle.having_filter.specs.Kept.{TakesRows}
use Rattle.group_runs.specs.Adding.{partial_after_row}
use Rattle.group_runs.specs.PlaceLaws.{dropped}
use Rattle.group_runs.specs.Standing.{AreStates}
use Rattle.group_runs.specs.StandingLaws.{states_by}
use Rattle.group_runs.specs.Steps.{AreAdvanced, HaveRoomForRow}
use Rattle.std.proofs.lemmas.Bool.Decides.{nat_tests}
use Rattle.std.proofs.lemmas.Grind.{common_steps}

-- what an aggregate makes of a row, by its argument
after_reach : (f : Function) (a : Aggregate) (row : Row) (p : Partial) (reach : Option Value) → a.function ≡ f → option_map datum_of reach
    ≡ (if is_met (column_of row) a.filter then Some (argument a.column row) else None) → partial_after f p reach ≡ partial_after_row a p row
after_reach f a row p None is reached = grind (arith, nat_tests, common_steps)
after_reach f a row p (Some v) is reached = grind (arith, nat_tests, common_steps)

-- a row is one row more at most
pub rows_after_row : (a : Aggregate) (row : Row) (p : Partial) → rows_of (partial_after_row a p row) ≤ rows_of p + 1
rows_after_row a row p = grind (arith, nat_tests, common_steps)

-- a value that reaches an aggregate is one that it takes
pub reach_taken : (kinds : List Kind) (f : Function) (a : Aggregate) (row : Row) (reach : Option Value) (v : Value) → TakesRows kinds a
    → HasKinds kinds row → a.function ≡ f → option_map datum_of reach
    ≡ (if is_met (column_of row) a.filter then Some (argument a.column row) else None) → reach ≡ Some v → Takes f (datum_of v)
reach_taken kinds f a row reach v takes has is reached some = grind (arith, nat_tests, common_steps)

-- a state that was moved on by a row, within a bound
pub moved_on : (kind : AggKind) (a : Aggregate) (row : Row) (reach : Option Value) (m bound : ℕ) (p q : Partial) (old new : List ℕ)
    → a.function ≡ function_of kind → option_map datum_of reach ≡ (if is_met (column_of row) a.filter then Some (argument a.column row)
    else None)
    → m < bound → bound ≤ most_rows → states.Denotes m (kind_shape kind) old p → states.Denotes bound (kind_shape kind) old q
    → states.Denotes bound (kind_shape kind) new (partial_after (function_of kind) q reach)
    → states.Denotes (m + 1) (kind_shape kind) new (partial_after_row a p row)
moved_on kind a row reach m bound p q old new is reached low top denoted found moved =
    let s : Shape = kind_shape kind in
    let same : q ≡ p = once bound s old q p top found (raised m bound s old p (omega (arith, low)) denoted) in
    let after : partial_after (function_of kind) q reach ≡ partial_after_row a p row = ap (λ q. partial_after (function_of kind) q reach)
    same ∙ after_reach (function_of kind) a row p reach is reached in
    let now : states.Denotes bound s new (partial_after_row a p row) = subst (states.Denotes bound s new) after moved in
    let few : rows_of p ≤ m = state_rows m s p denoted.0 in
    let more : rows_of (partial_after_row a p row) ≤ rows_of p + 1 = rows_after_row a row p in
    (within bound (m + 1) s (partial_after_row a p row) now.0 (omega (arith, few, more)), now.1)

-- such a state has room
pub has_room : (kind : AggKind) (a : Aggregate) (row : Row) (reach : Option Value) (m bound : ℕ) (p : Partial) (old : List ℕ)
    → a.function ≡ function_of kind → option_map datum_of reach ≡ (if is_met (column_of row) a.filter then Some (argument a.column row)
    else None)
    → m < bound → states.Denotes m (kind_shape kind) old p → ((q : Partial) → states.Denotes bound (kind_shape kind) old q
    → bound < rows_of (partial_after (function_of kind) q reach)) → ⊥
has_room kind a row reach m bound p old is reached low denoted many = grind (arith, nat_tests, common_steps)

-- the aggregate at a place, which the first of some kinds names, and those behind it
pub at_place : (all : List Aggregate) (place : ℕ) (k : AggKind) (ks kinds : List AggKind) → kinds ≡ k ∷ ks → functions_of kinds
    ≡ map (λ (a : Aggregate). a.function) (drop place all)
    → (a : Aggregate) × (slice_get all place ≡ Some a) × (a.function ≡ function_of k)
    × (functions_of ks ≡ map (λ (a : Aggregate). a.function) (drop (place + 1) all)) × (drop place all ≡ a ∷ drop (place + 1) all)
at_place all place k ks kinds is named = parts (drop place all) refl (sym (ap functions_of is) ∙ named)
  where
    parts : (calls : List Aggregate) → drop place all ≡ calls → functions_of (k ∷ ks) ≡ map (λ (a : Aggregate). a.function) calls
        → (a : Aggregate) × (slice_get all place ≡ Some a) × (a.function ≡ function_of k)
        × (functions_of ks ≡ map (λ (a : Aggregate). a.function) (drop (place + 1) all)) × (drop place all ≡ a ∷ drop (place + 1) all)
    parts [] at same = absurd cc
    parts (a ∷ rest) at same =
        let found = dropped all place a rest at in
        let first : a.function ≡ function_of k = cc in
        let others : functions_of ks ≡ map (λ (a : Aggregate). a.function) rest = cc in
        (a, found.0, first, others ∙ ap (map (λ (a : Aggregate). a.function)) (sym found.1), at ∙ ap (λ calls. a ∷ calls) (sym found.1))

-- the states of no aggregates are no bytes
pub none_advanced : (calls : List Aggregate) (kinds : List AggKind) (bound : ℕ) (bytes : List ℕ) (row : Row) → length kinds ≡ 0
    → functions_of kinds ≡ map (λ (a : Aggregate). a.function) calls → bytes ≡ [] → AreAdvanced calls bound bytes row bytes
none_advanced [] [] bound bytes row none named empty = grind (arith, nat_tests, common_steps)
none_advanced (a ∷ calls) [] bound bytes row none named empty = absurd cc
none_advanced calls (kind ∷ kinds) bound bytes row none named empty = absurd (omega (arith, none))

pub none_left : (these : List Function) (kinds : List AggKind) (bound : ℕ) (bytes : List ℕ) → length kinds ≡ 0 → functions_of kinds ≡ these
    → HaveRoomForRow these bound bytes → bytes ≡ []
none_left these [] bound bytes none named room = left room.1 (states_by these room.0 [] bytes room.1 named room.2)
  where
    left : (ps : List Partial) → DenotesAll room.0 [] bytes ps → bytes ≡ []
    left [] d = d
    left (p ∷ ps) d = absurd d
none_left these (kind ∷ kinds) bound bytes none named room = absurd (omega (arith, none))

-- the states of one aggregate and of those behind it are moved on by a row
more_advanced : (a : Aggregate) (rest : List Aggregate) (k : AggKind) (ks : List AggKind) (bound : ℕ) (bytes front back : List ℕ)
    (row : Row)
    → a.function ≡ function_of k → functions_of ks ≡ map (λ (a : Aggregate). a.function) rest
    → ((m : ℕ) (p : Partial) → m < bound → states.Denotes m (kind_shape k) (take (kind_width k) bytes) p
    → states.Denotes (m + 1) (kind_shape k) front (partial_after_row a p row))
    → (p : Partial) × states.Denotes bound (kind_shape k) (take (kind_width k) bytes) p
    → (p : Partial) × states.Denotes bound (kind_shape k) front p
    → AreAdvanced rest bound (drop (kind_width k) bytes) row back
    → AreAdvanced (a ∷ rest) bound bytes row (front ++ back)
more_advanced a rest k ks bound bytes front back row first others one was some more =
    record {
      moved = λ m ps low are. step m ps low (states_by (map (λ (a : Aggregate). a.function) (a ∷ rest)) m (k ∷ ks) bytes ps named are);
      held = (
        was.0 ∷ more.held.0,
        record {
          kinds = k
              ∷ ks;
          named = named;
          denote = (
            was.1,
            states_by (map (λ (a : Aggregate). a.function) rest) bound ks
                (drop (kind_width k) bytes) more.held.0 others more.held.1,
          );
        },
      );
      within = (some.0 ∷ more.within.0, whole bound some.0 more.within.0 some.1 more.within.1);
    }
  where
    named : functions_of (k ∷ ks) ≡ map (λ (a : Aggregate). a.function) (a ∷ rest)
    named = λ i. sym first i ∷ others i

    whole : (m : ℕ) (p : Partial) (ps : List Partial) → states.Denotes m (kind_shape k) front p
        → AreStates (map (λ (a : Aggregate). a.function) rest) m back ps → AreStates (map (λ (a : Aggregate). a.function) (a ∷ rest)) m
        (front ++ back) (p ∷ ps)
    whole m p ps d are = record {
      kinds = k ∷ ks;
      named = named;
      denote = joined m k (k ∷ ks) ks front back p ps refl d
          (states_by (map (λ (a : Aggregate). a.function) rest) m ks back ps others are);
    }

    step : (m : ℕ) (ps : List Partial) → m < bound → DenotesAll m (k ∷ ks) bytes ps
        → AreStates (map (λ (a : Aggregate). a.function) (a ∷ rest)) (m + 1) (front ++ back) (advanced (a ∷ rest) ps row)
    step m [] low d = absurd d
    step m (p ∷ ps) low (d, ds) = whole (m + 1) (partial_after_row a p row) (advanced rest ps row) (one m p low d)
        (more.moved m ps low (record { kinds = ks; named = others; denote = ds }))

pub step_advanced : (all : List Aggregate) (place : ℕ) (k : AggKind) (ks kinds : List AggKind) (bound : ℕ)
    (bytes front back first others : List ℕ) (row : Row)
    → kinds ≡ k ∷ ks → functions_of kinds ≡ map (λ (a : Aggregate). a.function) (drop place all) → front ≡ take (kind_width k) bytes → back
    ≡ drop (kind_width k) bytes
    → ((a : Aggregate) → slice_get all place ≡ Some a → a.function ≡ function_of k → (m : ℕ) (p : Partial) → m < bound
    → states.Denotes m (kind_shape k) front p → states.Denotes (m + 1) (kind_shape k) first (partial_after_row a p row))
    → (p : Partial) × states.Denotes bound (kind_shape k) front p
    → (p : Partial) × states.Denotes bound (kind_shape k) first p
    → AreAdvanced (drop (place + 1) all) bound back row others
    → AreAdvanced (drop place all) bound bytes row (first ++ others)
step_advanced all place k ks kinds bound bytes front back first others row is named before behind one was some more =
    let at = at_place all place k ks kinds is named in
    subst (λ calls. AreAdvanced calls bound bytes row (first ++ others)) (sym at.4)
    (more_advanced at.0 (drop (place + 1) all) k ks bound bytes first others row at.2 at.3
    (λ m p low d. one at.0 at.1 at.2 m p low (subst (λ b. states.Denotes m (kind_shape k) b p) (sym before) d))
    (was.0, subst (λ b. states.Denotes bound (kind_shape k) b was.0) before was.1) some
    (subst (λ b. AreAdvanced (drop (place + 1) all) bound b row others) behind more))

-- states that can count one more row, in two parts
pub room_parted : (all : List Aggregate) (place : ℕ) (k : AggKind) (ks kinds : List AggKind) (bound : ℕ) (bytes front back : List ℕ)
    → kinds ≡ k ∷ ks → functions_of kinds ≡ map (λ (a : Aggregate). a.function) (drop place all) → front ≡ take (kind_width k) bytes → back
    ≡ drop (kind_width k) bytes
    → HaveRoomForRow (map (λ (a : Aggregate). a.function) (drop place all)) bound bytes
    → (m : ℕ) × (p : Partial) × (m < bound) × states.Denotes m (kind_shape k) front p
    × HaveRoomForRow (map (λ (a : Aggregate). a.function) (drop (place + 1) all)) bound back
room_parted all place k ks kinds bound bytes front back is named before behind room =
    parts room.1 (states_by (map (λ (a : Aggregate). a.function) (drop place all)) room.0 (k ∷ ks) bytes room.1 (sym (ap functions_of is)
    ∙ named) room.2)
  where
    parts : (ps : List Partial) → DenotesAll room.0 (k ∷ ks) bytes ps → (m : ℕ) × (p : Partial) × (m < bound)
        × states.Denotes m (kind_shape k) front p × HaveRoomForRow (map (λ (a : Aggregate). a.function) (drop (place + 1) all)) bound back
    parts [] d = absurd d
    parts (p ∷ ps) (d, ds) = (
      room.0,
      p,
      room.3,
      subst (λ b. states.Denotes room.0 (kind_shape k) b p) (sym before) d,
      (
        room.0,
        ps,
        record {
          kinds = ks;
          named = (at_place all place k ks kinds is named).3;
          denote = subst (λ b. DenotesAll room.0 ks b ps)
              (sym behind) ds;
        },
        room.3,
      ),
    )
