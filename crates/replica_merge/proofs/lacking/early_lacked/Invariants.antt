use Rattle.std.specs.Prelude.{◌≡◌, ◌++◌}
use Rattle.std.specs.List.Sorted.{IsStrictlySortedBy}
use Rattle.std.specs.Ordering.{nat_cmp}
use Rattle.grouping_model.specs.World.{Knowledge}
use Rattle.origin_prefix.specs.Lemmas.ByNumber.{numbers}
use Rattle.replica_merge.specs.Lacking.{Lists, lacked_early}
use Rattle.replica_merge.proofs.LackingLaws.{AreBelow}
use Rattle.replica_merge.proofs.lacking.early_lacked.Given as goal

abbrev pub invariant-loop-number : goal.invariant-loop-number
invariant-loop-number l =
    record {
      so_far :
          (known : Knowledge) → Lists l.listed known → l.lacked.entries ++ lacked_early known l.origin l.number-iterator
          ≡ lacked_early known l.origin l.initial.number-iterator;
      below : AreBelow l.lacked.entries l.number-iterator;
      rising : IsStrictlySortedBy nat_cmp (numbers l.number-iterator);
      can : (goal.iterator-loop-number).can_next l.number-iterator;
      finite : (goal.iterator-loop-number).is_finite l.number-iterator;
    }
