use Rattle.std.specs.Prelude.{◌≡◌, length, map, take, drop}
use Rattle.group_runs.specs.Runs.{moved}
use Rattle.group_runs.proofs.segment.move_ends.Given as goal

abbrev pub invariant-loop-place : goal.invariant-loop-place
invariant-loop-place l =
    record {
      many : length l.ends ≡ length l.initial.ends;
      done : take l.place l.ends ≡ map (moved l.start l.behind) (take l.place l.initial.ends);
      left : drop l.place l.ends ≡ drop l.place l.initial.ends;
    }
