use Rattle.std.specs.Prelude.{◌+◌, ◌≤◌, ◌-◌, length, take}
use Rattle.group_runs.proofs.Words.{concatenated, IsBetween}
use Rattle.group_runs.proofs.segments.Segments.narrow.Given as goal

abbrev pub invariant-loop-first : goal.invariant-loop-first
invariant-loop-first l =
    record {
      between : IsBetween (concatenated l.self) l.from l.low l.high l.key;
      many : l.last ≤ length l.self;
      begun : length (concatenated (take l.first l.self)) ≤ l.low;
      ended : l.high ≤ length (concatenated (take (l.last + 1) l.self));
    }

abbrev pub decreases-loop-first : goal.decreases-loop-first
decreases-loop-first l = l.last - l.first
