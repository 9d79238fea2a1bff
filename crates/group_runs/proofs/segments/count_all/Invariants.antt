use Rattle.std.specs.Prelude.{◌≡◌, length, take}
use Rattle.packed_rows.specs.ConcatenatedRows.{concatenated, ends_of}
use Rattle.group_runs.proofs.segments.count_all.Given as goal

abbrev pub invariant-loop-at : goal.invariant-loop-at
invariant-loop-at l =
    record {
      many : length l.ends.items ≡ length l.segments;
      counted : l.count ≡ length (concatenated (take l.at l.segments));
      done : take l.at l.ends.items ≡ ends_of 0 (take l.at l.segments);
    }
