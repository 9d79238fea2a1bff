use Rattle.std.specs.Prelude.{◌≡◌, take}
use Rattle.group_runs.proofs.run.Run.same_groups.Given as goal

abbrev pub invariant-loop-place : goal.invariant-loop-place
invariant-loop-place l = take l.place l.self ≡ take l.place l.other
