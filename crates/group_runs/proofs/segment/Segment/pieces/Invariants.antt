use Rattle.std.specs.Prelude.{◌≡◌, ◌≤◌, ◌-◌, slice_range}
use Rattle.packed_rows.specs.ConcatenatedRows.{concatenated}
use Rattle.group_runs.proofs.segment.Segment.pieces.Given as goal

abbrev pub invariant-loop-from : goal.invariant-loop-from
invariant-loop-from l =
    record {
      within : l.from ≤ l.count;
      done : concatenated l.pieces.items ≡ slice_range l.self 0 l.from;
    }

abbrev pub decreases-loop-from : goal.decreases-loop-from
decreases-loop-from l = l.count - l.from
