use Rattle.std.specs.Prelude.{◌≡◌, ◌<◌, ℕ, List, map}
use Rattle.std.specs.List.{AllByRecursion}
use Rattle.std.specs.List.Sorted.{IsStrictlySortedBy}
use Rattle.std.specs.Ordering.{nat_cmp}
use Rattle.grouping_model.specs.Datum.{Kind}
use Rattle.origin_prefix.specs.Parts.{rows_at, IsBehind}
use Rattle.origin_prefix.specs.Joins.{either}
use Rattle.origin_prefix.proofs.early.copy_above.Given as goal

abbrev pub invariant-loop-next : goal.invariant-loop-next
invariant-loop-next l =
    record {
      rows : (n : ℕ) → either (rows_at l.into.entries n) (rows_at l.next-iterator n)
          ≡ either (rows_at l.initial.into.entries n) (rows_at l.initial.next-iterator n);
      rising : IsStrictlySortedBy nat_cmp (map (λ (batch : ℕ × List (List ℕ)). batch.0) l.into.entries);
      above : AllByRecursion (λ (b : ℕ × List (List ℕ)). l.number < b.0) l.next-iterator;
      behind :
          (ks : List Kind) → AllByRecursion (λ (b : ℕ × List (List ℕ)). l.number < b.0 → IsBehind ks l.number b) l.initial.next-iterator
          → AllByRecursion (IsBehind ks l.number) l.initial.into.entries
          → AllByRecursion (IsBehind ks l.number) l.into.entries × AllByRecursion (λ (b : ℕ × List (List ℕ)). l.number < b.0
          → IsBehind ks l.number b) l.next-iterator;
      can : (goal.iterator-loop-next).can_next l.next-iterator;
      finite : (goal.iterator-loop-next).is_finite l.next-iterator;
    }
