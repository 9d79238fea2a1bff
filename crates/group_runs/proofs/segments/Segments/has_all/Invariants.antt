use Rattle.std.specs.Prelude.{◌≤◌, length, take}
use Rattle.std.specs.List.{AllByRecursion}
use Rattle.group_runs.proofs.Words.{packed_keys, HasKey, concatenated}
use Rattle.group_runs.proofs.segments.Segments.has_all.Given as goal

abbrev pub invariant-loop-place : goal.invariant-loop-place
invariant-loop-place l =
    record {
      within : l.from ≤ length (concatenated l.self);
      there : AllByRecursion (HasKey (concatenated l.self)) (take l.place (packed_keys (concatenated l.more)));
    }
