use Rattle.std.specs.Prelude.{◌≡◌, ◌≤◌, ◌++◌, length, drop, slice_get, slice_range, Some}
use Rattle.group_runs.proofs.Words.{functions_of, Entry, EachQuery, Rises, concatenated}
use Rattle.group_runs.proofs.RunLaws.{AddsFirst}
use Rattle.group_runs.specs.Places.{AllBelow}
use Rattle.group_runs.proofs.segment.Segment.merged.Given as goal

abbrev pub invariant-loop-place : goal.invariant-loop-place
invariant-loop-place l =
    record {
      within : l.left ≤ length l.self;
      rises : Rises (l.merged ++ drop l.left l.self);
      below : (e : Entry) → slice_get (slice_range (concatenated l.more) l.from l.to) l.place ≡ Some e → AllBelow e.0 l.merged;
      added : EachQuery (functions_of l.kinds) (λ q. AddsFirst q l.self (slice_range (concatenated l.more) l.from l.to) l.place
          (l.merged ++ drop l.left l.self));
    }
