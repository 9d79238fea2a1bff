use Rattle.std.specs.Prelude.{flat_map}
use Rattle.summary_codec.specs.File.{batch_bytes}
use Rattle.summary_codec.proofs.CountedLaws.{CountedSo}
use Rattle.summary_codec.proofs.length.batches_len.Given as goal

abbrev pub invariant-loop-rows : goal.invariant-loop-rows
invariant-loop-rows l =
    record {
      so_far : CountedSo batch_bytes l.len l.rows-iterator (flat_map batch_bytes l.early.entries);
      can : (goal.iterator-loop-rows).can_next l.rows-iterator;
      finite : (goal.iterator-loop-rows).is_finite l.rows-iterator;
    }
