use Rattle.std.specs.Prelude.{flat_map}
use Rattle.summary_codec.specs.File.{part_bytes}
use Rattle.summary_codec.proofs.CountedLaws.{CountedSo}
use Rattle.summary_codec.proofs.length.parts_len.Given as goal

abbrev pub invariant-loop-part : goal.invariant-loop-part
invariant-loop-part l =
    record {
      so_far : CountedSo part_bytes l.len l.part-iterator (flat_map part_bytes l.parts.entries);
      can : (goal.iterator-loop-part).can_next l.part-iterator;
      finite : (goal.iterator-loop-part).is_finite l.part-iterator;
    }
