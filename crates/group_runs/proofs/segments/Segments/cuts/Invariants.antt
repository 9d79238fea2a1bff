use Rattle.std.specs.Prelude.{◌≡◌, take}
use Rattle.group_runs.specs.Segments.{AreCut, all_pieces, cut_count}
use Rattle.group_runs.proofs.segments.Segments.cuts.Given as goal

abbrev pub invariant-loop-segment : goal.invariant-loop-segment
invariant-loop-segment l =
    record {
      cut : AreCut (take l.segment-index l.segment-items) (all_pieces l.cuts.items);
      count : l.count ≡ cut_count (all_pieces l.cuts.items);
    }
