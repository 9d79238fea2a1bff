use Rattle.std.specs.Prelude.{ℕ, ◌≤◌, List, drop}
use Rattle.grouping_model.specs.Aggregates.{Outcome}
use Rattle.grouping_model.specs.Grouping.{Group}
use Rattle.agg_protocol.specs.States.{most_rows}
use Rattle.having_filter.specs.Meaning.{meaning}
use Rattle.group_runs.specs.Standing.{AreGroups}
use Rattle.group_answers.proofs.ShownLaws.{LeftOver}
use Rattle.group_answers.proofs.showing.rows_of_run.Given as goal

abbrev pub invariant-loop-place : goal.invariant-loop-place
invariant-loop-place g l =
    (given : List (List Outcome)) × g.S.RowSink.took l.fn.rows l.rows given
    × ((most : ℕ) (groups : List Group) → most ≤ most_rows → AreGroups (meaning l.query) most l.fn.run groups
    → LeftOver (meaning l.query) most (drop l.place l.fn.run) given groups)
