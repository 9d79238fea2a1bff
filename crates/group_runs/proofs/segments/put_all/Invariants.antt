use Rattle.std.specs.Prelude.{◌≡◌, ℕ, ◌<◌, List, length}
use Rattle.std.specs.List.{AllByRecursion}
use Rattle.group_runs.proofs.Words.{Entry, replaced}
use Rattle.group_runs.proofs.segments.put_all.Given as goal

abbrev pub invariant-loop-at : goal.invariant-loop-at
invariant-loop-at l =
    record {
      left : replaced l.fresh.items l.segments.items ≡ replaced l.fn.fresh.items l.fn.segments.items;
      there : AllByRecursion (λ (one : ℕ × List Entry). one.0 < length l.segments.items) l.fresh.items;
    }

abbrev pub decreases-loop-at : goal.decreases-loop-at
decreases-loop-at l = length l.fresh.items
