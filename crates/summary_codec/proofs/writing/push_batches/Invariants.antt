use Rattle.std.specs.Prelude.{◌≡◌, ◌++◌, flat_map}
use Rattle.std.specs.List.{AllByRecursion}
use Rattle.summary_codec.specs.Short.{IsShortBatch}
use Rattle.summary_codec.specs.File.{batch_bytes}
use Rattle.summary_codec.proofs.writing.push_batches.Given as goal

abbrev pub invariant-loop-number : goal.invariant-loop-number
invariant-loop-number l =
    record {
      so_far : l.out.items ++ flat_map batch_bytes l.number-iterator ≡ l.initial.out.items
          ++ flat_map batch_bytes l.initial.number-iterator;
      short : AllByRecursion IsShortBatch l.number-iterator;
      can : (goal.iterator-loop-number).can_next l.number-iterator;
      finite : (goal.iterator-loop-number).is_finite l.number-iterator;
    }
