-- What the steps of an aggregation require of the groups that bytes stand for, and what they make of them. A step requires that there are
-- such groups, and speaks of all that the bytes stand for. All of this is our own.
use Rattle.std.specs.Prelude.{◌≡◌, ℕ, ◌+◌, ◌<◌, ◌≤◌, List, map, IfSome}
use Rattle.grouping_model.specs.Aggregates.{Function, Partial}
use Rattle.grouping_model.specs.Combining.{combine_all}
use Rattle.grouping_model.specs.Datum.{Row}
use Rattle.grouping_model.specs.Grouping.{Group}
use Rattle.grouping_model.specs.Parts.{advanced, functions, partials_at}
use Rattle.grouping_model.specs.Query.{Query, Aggregate}
use Rattle.agg_protocol.specs.States.{most_rows}
use Rattle.agg_library.specs.StateRows.{AllWithin}
use Rattle.group_runs.specs.Runs.{Entry, Rises}
use Rattle.group_runs.specs.Standing.{AreStates, StandsFor, AreGroups}
use Rattle.group_runs.specs.Adding.{group_added, groups_added}

-- a group joins those of its key, which count few enough rows
abbrev pub HasRoomForGroup : Query → List Entry → Entry → Type 0
HasRoomForGroup query old entry =
    (m n : ℕ) × (groups : List Group) × (group : Group)
    × AreGroups query (m + n) old groups
    × IfSome (partials_at group.0 groups) (AllWithin m)
    × StandsFor query n entry group
    × (m + n ≤ most_rows)

abbrev pub AddsGroup : Query → List Entry → Entry → List Entry → Type 0
AddsGroup query old entry new =
    (m n : ℕ) (groups : List Group) (group : Group)
    → m + n ≤ most_rows
    → AreGroups query (m + n) old groups
    → IfSome (partials_at group.0 groups) (AllWithin m)
    → StandsFor query n entry group
    → AreGroups query (m + n) new (group_added query groups group)

-- the same of a run
abbrev pub HasRoomForRun : Query → List Entry → List Entry → Type 0
HasRoomForRun query old run =
    (m n : ℕ) × (groups more : List Group) × AreGroups query m old groups × AreGroups query n run more × Rises run × (m + n ≤ most_rows)

abbrev pub AddsRun : Query → List Entry → List Entry → List Entry → Type 0
AddsRun query old run new =
    (m n : ℕ) (groups more : List Group)
    → m + n ≤ most_rows
    → AreGroups query m old groups
    → AreGroups query n run more
    → AreGroups query (m + n) new (groups_added query groups more)

-- a step knows the functions alone: it requires this of some query that has them, and ensures it of each
abbrev pub SomeQuery : List Function → (Query → Type 0) → Type 0
SomeQuery these Holds = (query : Query) × (functions query ≡ these) × Holds query

abbrev pub EachQuery : List Function → (Query → Type 0) → Type 0
EachQuery these Holds = (query : Query) → functions query ≡ these → Holds query

abbrev pub CanAddGroup : List Function → List Entry → Entry → Type 0
CanAddGroup these old entry = SomeQuery these (λ query. HasRoomForGroup query old entry)

abbrev pub AddsGroupOf : List Function → List Entry → Entry → List Entry → Type 0
AddsGroupOf these old entry new = EachQuery these (λ query. AddsGroup query old entry new)

abbrev pub CanAddRun : List Function → List Entry → List Entry → Type 0
CanAddRun these old run = SomeQuery these (λ query. HasRoomForRun query old run)

abbrev pub AddsRunOf : List Function → List Entry → List Entry → List Entry → Type 0
AddsRunOf these old run new = EachQuery these (λ query. AddsRun query old run new)

-- states of these functions that count at most this many rows
abbrev pub AreWithin : List Function → ℕ → List ℕ → Type 0
AreWithin these bound bytes = (partials : List Partial) × AreStates these bound bytes partials

-- the states of one group can count one more row, within a bound
abbrev pub HaveRoomForRow : List Function → ℕ → List ℕ → Type 0
HaveRoomForRow these bound old = (most : ℕ) × (partials : List Partial) × AreStates these most old partials × (most < bound)

-- those of some aggregates, which count few enough rows, are moved on by a row
pub record AreAdvanced (aggregates : List Aggregate) (bound : ℕ) (old : List ℕ) (row : Row) (new : List ℕ) : Type 0 where
  pub moved :
      (most : ℕ) (partials : List Partial) → most < bound → AreStates (map (λ (a : Aggregate). a.function) aggregates) most old partials
      → AreStates (map (λ (a : Aggregate). a.function) aggregates) (most + 1) new (advanced aggregates partials row)
  pub held : AreWithin (map (λ (a : Aggregate). a.function) aggregates) bound old
  pub within : AreWithin (map (λ (a : Aggregate). a.function) aggregates) bound new

-- the states of one group and others of its key can count the rows of both, within a bound, and are combined
abbrev pub HaveRoomWithin : List Function → ℕ → List ℕ → List ℕ → Type 0
HaveRoomWithin these bound old more =
    (m n : ℕ) × (partials others : List Partial) × AreStates these m old partials × AreStates these n more others × (m + n ≤ bound)

abbrev pub CombineWithin : List Function → ℕ → List ℕ → List ℕ → List ℕ → Type 0
CombineWithin these bound old more new =
    (m n : ℕ) (partials others : List Partial)
    → m + n ≤ bound
    → AreStates these m old partials
    → AreStates these n more others
    → AreStates these (m + n) new (combine_all these partials others)

pub record AreCombined (these : List Function) (bound : ℕ) (old more new : List ℕ) : Type 0 where
  pub moved : CombineWithin these bound old more new
  pub held : AreWithin these bound old × AreWithin these bound more
  pub within : AreWithin these bound new

abbrev pub HaveRoomForMore : List Function → List ℕ → List ℕ → Type 0
HaveRoomForMore these old more = HaveRoomWithin these most_rows old more

abbrev pub CombineWith : List Function → List ℕ → List ℕ → List ℕ → Type 0
CombineWith these old more new = CombineWithin these most_rows old more new
