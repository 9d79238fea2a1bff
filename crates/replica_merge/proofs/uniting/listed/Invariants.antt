use Rattle.std.specs.Prelude.{◌≡◌, ◌++◌, map}
use Rattle.replica_merge.specs.Lemmas.Words.{brought_by, counted_part}
use Rattle.replica_merge.proofs.uniting.listed.Given as goal

abbrev pub invariant-loop-part : goal.invariant-loop-part
invariant-loop-part l =
    record {
      so_far : brought_by l.list.items ++ map counted_part l.part-iterator ≡ map counted_part l.initial.part-iterator;
      can : (goal.iterator-loop-part).can_next l.part-iterator;
      finite : (goal.iterator-loop-part).is_finite l.part-iterator;
    }
