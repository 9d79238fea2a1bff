use Rattle.std.specs.Prelude.{◌≡◌, ◌++◌, map}
use Rattle.std.specs.List.{AllByRecursion}
use Rattle.replica_merge.specs.Lemmas.Words.{counted_part}
use Rattle.replica_merge.specs.Pieces.{IsSpan, left_by}
use Rattle.replica_merge.proofs.pieces.spans_of.Given as goal

abbrev pub invariant-loop-part : goal.invariant-loop-part
invariant-loop-part l =
    record {
      so_far : left_by l.spans.items ++ map counted_part l.part-iterator ≡ map counted_part l.initial.part-iterator;
      within : AllByRecursion IsSpan l.spans.items;
      can : (goal.iterator-loop-part).can_next l.part-iterator;
      finite : (goal.iterator-loop-part).is_finite l.part-iterator;
    }
