use Rattle.std.specs.Prelude.{◌≡◌, ◌≤◌, take, length, slice_get, Some}
use Rattle.group_runs.proofs.Words.{functions_of, Entry, EachQuery, packed_keys, concatenated}
use Rattle.group_runs.proofs.RunLaws.{AddsFirst}
use Rattle.group_runs.specs.Places.{AllBelow}
use Rattle.group_runs.proofs.segments.Segments.combine_all.Given as goal

abbrev pub invariant-loop-place : goal.invariant-loop-place
invariant-loop-place l =
    record {
      within : l.from ≤ length (concatenated l.self);
      below : (e : Entry) → slice_get (concatenated l.more) l.place ≡ Some e → AllBelow e.0 (take l.from (concatenated l.self));
      keys : packed_keys (concatenated l.self) ≡ packed_keys (concatenated l.initial.self);
      added : EachQuery (functions_of l.kinds) (λ q. AddsFirst q (concatenated l.initial.self) (concatenated l.more) l.place (concatenated l.self));
    }
