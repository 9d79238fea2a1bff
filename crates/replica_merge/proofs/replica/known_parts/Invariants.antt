use Rattle.std.specs.Prelude.{◌≡◌, ◌++◌, map}
use Rattle.replica_merge.specs.Replicas.{known_of, known_part}
use Rattle.replica_merge.proofs.replica.known_parts.Given as goal

abbrev pub invariant-loop-origin : goal.invariant-loop-origin
invariant-loop-origin l =
    record {
      so_far : map known_of l.list.items ++ map known_part l.origin-iterator ≡ map known_part l.initial.origin-iterator;
      can : (goal.iterator-loop-origin).can_next l.origin-iterator;
      finite : (goal.iterator-loop-origin).is_finite l.origin-iterator;
    }
