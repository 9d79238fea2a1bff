use Rattle.std.specs.Prelude.{◌≡◌, ℕ, ◌+◌, ◌≤◌, ◌++◌, List, map}
use Rattle.std.specs.List.{AllByRecursion}
use Rattle.grouping_model.specs.declared.limits.TheConstants.{LAST_NUMBER}
use Rattle.hash_agg.specs.Inputs.{Packed, brought}
use Rattle.origin_prefix.specs.Parts.{following, rows_following}
use Rattle.origin_prefix.proofs.early.add_following.Given as goal

abbrev pub invariant-loop-next : goal.invariant-loop-next
invariant-loop-next l =
    record {
      upto : l.upto + following l.upto l.next-iterator ≡ l.number + following l.number l.initial.next-iterator;
      within : l.upto ≤ LAST_NUMBER;
      inputs : map brought l.inputs.items ++ map Packed (rows_following l.upto l.next-iterator)
          ≡ map brought l.initial.inputs.items ++ map Packed (rows_following l.number l.initial.next-iterator);
      early : AllByRecursion (λ (batch : ℕ × List (List ℕ)). batch.0 ≤ LAST_NUMBER) l.next-iterator;
      can : (goal.iterator-loop-next).can_next l.next-iterator;
      finite : (goal.iterator-loop-next).is_finite l.next-iterator;
    }
