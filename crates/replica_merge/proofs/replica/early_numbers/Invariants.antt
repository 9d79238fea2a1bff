use Rattle.std.specs.Prelude.{◌≡◌, ◌++◌}
use Rattle.origin_prefix.specs.Lemmas.ByNumber.{numbers}
use Rattle.replica_merge.proofs.replica.early_numbers.Given as goal

abbrev pub invariant-loop-number : goal.invariant-loop-number
invariant-loop-number l =
    record {
      so_far : l.numbers.items ++ numbers l.number-iterator ≡ numbers l.initial.number-iterator;
      can : (goal.iterator-loop-number).can_next l.number-iterator;
      finite : (goal.iterator-loop-number).is_finite l.number-iterator;
    }
