use Rattle.std.specs.Prelude.{◌≡◌, ℕ, ◌<◌, List, Some}
use Rattle.std.specs.List.{AllByRecursion}
use Rattle.origin_prefix.specs.Parts.{rows_at}
use Rattle.origin_prefix.specs.Joins.{AreAmong}
use Rattle.origin_prefix.proofs.early.are_among.Given as goal

abbrev pub invariant-loop-next : goal.invariant-loop-next
invariant-loop-next l =
    record {
      left : AreAmong l.number l.next-iterator l.others.entries → AreAmong l.number l.early.entries l.others.entries;
      found : AllByRecursion (λ (e : ℕ × List (List ℕ)). rows_at l.early.entries e.0 ≡ Some e.1) l.next-iterator;
      above : AllByRecursion (λ (e : ℕ × List (List ℕ)). l.number < e.0) l.next-iterator;
      can : (goal.iterator-loop-next).can_next l.next-iterator;
      finite : (goal.iterator-loop-next).is_finite l.next-iterator;
    }
