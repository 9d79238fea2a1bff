use Rattle.std.specs.Prelude.{◌≡◌, ℕ, List, map, option_map}
use Rattle.std.specs.List.Sorted.{IsStrictlySortedBy}
use Rattle.std.specs.Ordering.{nat_cmp}
use Rattle.origin_prefix.specs.Parts.{rows_at}
use Rattle.origin_prefix.specs.Joins.{either}
use Rattle.origin_prefix.proofs.AsideLaws.{no_rows}
use Rattle.origin_prefix.proofs.early.places.Given as goal

abbrev pub invariant-loop-number : goal.invariant-loop-number
invariant-loop-number l =
    record {
      rows : (n : ℕ) → either (rows_at l.places.entries n) (option_map no_rows (rows_at l.number-iterator n))
          ≡ option_map no_rows (rows_at l.initial.number-iterator n);
      rising : IsStrictlySortedBy nat_cmp (map (λ (batch : ℕ × List (List ℕ)). batch.0) l.places.entries);
      can : (goal.iterator-loop-number).can_next l.number-iterator;
      finite : (goal.iterator-loop-number).is_finite l.number-iterator;
    }
