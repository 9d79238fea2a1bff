use Rattle.std.specs.Prelude.{◌+◌, ◌-◌, ◌<◌, ◌≤◌, ◌∷◌, length, slice_index_or}
use Rattle.group_runs.proofs.segments.locate.Given as goal

abbrev pub invariant-loop-low : goal.invariant-loop-low
invariant-loop-low l =
    record {
      order : l.low ≤ l.high;
      there : l.high < length l.ends;
      behind : slice_index_or (0 ∷ l.ends) l.low 0 ≤ l.place;
      before : l.place < slice_index_or (0 ∷ l.ends) (l.high + 1) 0;
    }

abbrev pub decreases-loop-low : goal.decreases-loop-low
decreases-loop-low l = l.high - l.low
