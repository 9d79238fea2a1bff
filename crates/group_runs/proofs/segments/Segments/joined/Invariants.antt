use Rattle.std.specs.Prelude.{◌≡◌, ◌-◌, ◌≤◌, slice_range}
use Rattle.group_runs.proofs.Words.{concatenated}
use Rattle.group_runs.proofs.segments.Segments.joined.Given as goal

abbrev pub invariant-loop-left : goal.invariant-loop-left
invariant-loop-left l =
    record {
      begun : l.from ≤ l.left;
      within : l.left ≤ l.to;
      joined : l.joined ≡ slice_range (concatenated l.self) l.from l.left;
    }

abbrev pub decreases-loop-left : goal.decreases-loop-left
decreases-loop-left l = l.to - l.left
