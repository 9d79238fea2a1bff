use Rattle.std.specs.Prelude.{◌≡◌, ◌++◌}
use Rattle.std.specs.List.Sorted.{IsStrictlySortedBy}
use Rattle.std.specs.Ordering.{nat_cmp}
use Rattle.grouping_model.specs.World.{Knowledge}
use Rattle.origin_prefix.specs.Lemmas.ByNumber.{numbers}
use Rattle.replica_merge.specs.Lacking.{Lists, lacked_parts}
use Rattle.replica_merge.proofs.LackingLaws.{AreBelow}
use Rattle.replica_merge.proofs.lacking.parts_lacked.Given as goal

abbrev pub invariant-loop-origin : goal.invariant-loop-origin
invariant-loop-origin l =
    record {
      so_far :
          (known : Knowledge) → Lists l.listed known → l.lacked.entries ++ lacked_parts known l.origin-iterator
          ≡ lacked_parts known l.initial.origin-iterator;
      below : AreBelow l.lacked.entries l.origin-iterator;
      rising : IsStrictlySortedBy nat_cmp (numbers l.origin-iterator);
      can : (goal.iterator-loop-origin).can_next l.origin-iterator;
      finite : (goal.iterator-loop-origin).is_finite l.origin-iterator;
    }
