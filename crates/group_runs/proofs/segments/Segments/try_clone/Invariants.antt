use Rattle.std.specs.Prelude.{◌≡◌, take}
use Rattle.group_runs.proofs.segments.Segments.try_clone.Given as goal

abbrev pub invariant-loop-segment : goal.invariant-loop-segment
invariant-loop-segment l = l.segments.items ≡ take l.segment-index l.self-inside.segments.items
