use Rattle.std.specs.Prelude.{◌≡◌, ℕ, map, option_map}
use Rattle.std.specs.List.Sorted.{IsStrictlySortedBy}
use Rattle.std.specs.Ordering.{nat_cmp}
use Rattle.replica_merge.specs.Lemmas.Words.{either, Part, empty, part_at}
use Rattle.replica_merge.proofs.merging.places.Given as goal

abbrev pub invariant-loop-origin : goal.invariant-loop-origin
invariant-loop-origin l =
    record {
      at : (o : ℕ) → either (part_at l.places.entries o) (option_map (λ (_ : Part). empty) (part_at l.origin-iterator o))
          ≡ option_map (λ (_ : Part). empty) (part_at l.initial.origin-iterator o);
      rising : IsStrictlySortedBy nat_cmp (map (λ (held : ℕ × Part). held.0) l.places.entries);
      can : (goal.iterator-loop-origin).can_next l.origin-iterator;
      finite : (goal.iterator-loop-origin).is_finite l.origin-iterator;
    }
