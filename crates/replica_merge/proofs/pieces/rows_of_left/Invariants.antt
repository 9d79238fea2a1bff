use Rattle.std.specs.Prelude.{List}
use Rattle.grouping_model.specs.Aggregates.{Outcome}
use Rattle.having_filter.specs.Meaning.{meaning}
use Rattle.replica_merge.specs.Pieces.{count_left}
use Rattle.replica_merge.proofs.PieceLaws.{SoFar}
use Rattle.replica_merge.proofs.pieces.rows_of_left.Given as goal

abbrev pub invariant-loop-left : goal.invariant-loop-left
invariant-loop-left g l =
    (given : List (List Outcome)) × g.S.RowSink.took l.fn.rows l.rows given
    × SoFar (meaning l.query) l.fn.spans.items l.left.items l.is_empty given

abbrev pub decreases-loop-left : goal.decreases-loop-left
decreases-loop-left g l = count_left l.left.items
