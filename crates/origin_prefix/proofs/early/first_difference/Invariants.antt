use Rattle.std.specs.Prelude.{◌≡◌, ℕ, ◌<◌, List, Some}
use Rattle.std.specs.List.{AllByRecursion}
use Rattle.std.specs.List.Sorted.{IsStrictlySortedBy}
use Rattle.std.specs.Ordering.{nat_cmp}
use Rattle.origin_prefix.specs.Parts.{rows_at}
use Rattle.origin_prefix.specs.Joins.{DiffersAt}
use Rattle.origin_prefix.specs.Lemmas.ByNumber.{numbers}
use Rattle.origin_prefix.proofs.early.first_difference.Given as goal

abbrev pub invariant-loop-next : goal.invariant-loop-next
invariant-loop-next l =
    record {
      left : (n : ℕ) → DiffersAt l.number l.one.entries l.other.entries n → DiffersAt l.number l.next-iterator l.other.entries n;
      found : AllByRecursion (λ (e : ℕ × List (List ℕ)). rows_at l.one.entries e.0 ≡ Some e.1) l.next-iterator;
      above : AllByRecursion (λ (e : ℕ × List (List ℕ)). l.number < e.0) l.next-iterator;
      rising : IsStrictlySortedBy nat_cmp (numbers l.next-iterator);
      can : (goal.iterator-loop-next).can_next l.next-iterator;
      finite : (goal.iterator-loop-next).is_finite l.next-iterator;
    }
