use Rattle.std.specs.Prelude.{◌≡◌, ◌≤◌, ◌+◌, ◌++◌, length, vec_len, vec_capacity}
use Rattle.std.specs.Vec.Iter.{into_iter_items, into_iter_len}
use Rattle.packed_rows.specs.ConcatenatedRows.{concatenated}
use Rattle.group_runs.specs.Segments.{AreCut, all_pieces, cut_count}
use Rattle.group_runs.proofs.segments.place_all.Given as goal

abbrev pub invariant-loop-pieces : goal.invariant-loop-pieces
invariant-loop-pieces l =
    record {
      long : into_iter_len l.cuts ≡ length (into_iter_items l.cuts);
      cut : AreCut (into_iter_items l.segments) (all_pieces (into_iter_items l.cuts));
      room : vec_len l.placed + cut_count (all_pieces (into_iter_items l.cuts)) ≤ vec_capacity l.placed;
      same :
          concatenated l.placed.items ++ concatenated (into_iter_items l.segments)
          ≡ concatenated l.initial.placed.items ++ concatenated (into_iter_items l.initial.segments);
      many : vec_len l.initial.placed + length (into_iter_items l.initial.segments) ≤ vec_len l.placed + length
          (into_iter_items l.segments);
      few : vec_len l.placed + cut_count (all_pieces (into_iter_items l.cuts)) ≤ vec_len l.initial.placed + cut_count
          (all_pieces (into_iter_items l.initial.cuts));
    }

abbrev pub decreases-loop-pieces : goal.decreases-loop-pieces
decreases-loop-pieces l = length (into_iter_items l.cuts)
