-- What a sink has where the rows of an answer stop coming. All of this is our own.
use Rattle.std.specs.Prelude.{◌≡◌, ◌⊎◌, ℕ, ◌≤◌, ◌++◌, List}
use Rattle.grouping_model.specs.Aggregates.{Outcome}
use Rattle.grouping_model.specs.Grouping.{Group}
use Rattle.grouping_model.specs.Query.{Query}
use Rattle.agg_protocol.specs.States.{most_rows}
use Rattle.group_runs.specs.Runs.{Entry}
use Rattle.group_runs.specs.Standing.{AreGroups}
use Rattle.group_answers.specs.declared.row_sink.RowSink.{Ghosts}

-- a sink stays as it was, or refused a row
abbrev pub Stopped : {S : Type 0} → Ghosts S → (old new : S) → Type 0
Stopped g old new = (new ≡ old) ⊎ g.refused old new

-- rows are the first of those that are shown of the groups of a run
abbrev pub AreFirst : Query → List Entry → (List Group → List (List Outcome)) → List (List Outcome) → Type 0
AreFirst query run shown rows = (most : ℕ) (groups : List Group) → most ≤ most_rows → AreGroups query most run groups
    → (rest : List (List Outcome)) × (rows ++ rest ≡ shown groups)

-- a sink took the first of the rows that are shown of the groups of a run, and at most refused one row then
pub record StoppedAmong {S : Type 0} (g : Ghosts S) (query : Query) (run : List Entry) (shown : List Group → List (List Outcome))
    (old new : S) : Type 0 where
  pub given : List (List Outcome)
  pub between : S
  pub taken : g.took old between given
  pub first : AreFirst query run shown given
  pub stopped : Stopped g between new
