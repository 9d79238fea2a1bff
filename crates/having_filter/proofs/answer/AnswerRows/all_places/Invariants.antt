use Rattle.std.specs.Prelude.{◌≡◌, ◌<◌, [], All, length, map, take, slice_index_or}
use Rattle.having_filter.proofs.answer.AnswerRows.all_places.Given as goal

abbrev pub invariant-loop-place : goal.invariant-loop-place
invariant-loop-place l =
    record {
      rows : map (λ place. slice_index_or l.self place []) l.places.items ≡ take l.place l.self;
      below : All (λ place. place < length l.self) l.places.items;
    }
