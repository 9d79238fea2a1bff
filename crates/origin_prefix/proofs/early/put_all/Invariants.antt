use Rattle.std.specs.Prelude.{◌≡◌, ℕ, List, map}
use Rattle.std.specs.List.Sorted.{IsStrictlySortedBy}
use Rattle.std.specs.Ordering.{nat_cmp}
use Rattle.origin_prefix.specs.Parts.{rows_at}
use Rattle.origin_prefix.specs.Joins.{put_into}
use Rattle.origin_prefix.proofs.early.put_all.Given as goal

abbrev pub invariant-loop-number : goal.invariant-loop-number
invariant-loop-number l =
    record {
      put : (n : ℕ) → put_into (rows_at l.places.entries n) (rows_at l.number-iterator n)
          ≡ put_into (rows_at l.initial.places.entries n) (rows_at l.initial.number-iterator n);
      rest : IsStrictlySortedBy nat_cmp (map (λ (batch : ℕ × List (List ℕ)). batch.0) l.number-iterator);
      rising : IsStrictlySortedBy nat_cmp (map (λ (batch : ℕ × List (List ℕ)). batch.0) l.places.entries);
      can : (goal.iterator-loop-number).can_next l.number-iterator;
      finite : (goal.iterator-loop-number).is_finite l.number-iterator;
    }
