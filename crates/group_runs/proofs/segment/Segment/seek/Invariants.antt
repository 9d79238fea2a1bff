use Rattle.std.specs.Prelude.{◌-◌}
use Rattle.group_runs.specs.Places.{IsBetween}
use Rattle.group_runs.proofs.segment.Segment.seek.Given as goal

abbrev pub invariant-loop-low : goal.invariant-loop-low
invariant-loop-low l = IsBetween l.self l.from l.low l.high l.key

abbrev pub decreases-loop-low : goal.decreases-loop-low
decreases-loop-low l = l.high - l.low
