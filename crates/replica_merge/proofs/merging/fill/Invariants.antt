use Rattle.std.specs.Prelude.{◌≡◌, ℕ, map}
use Rattle.std.specs.List.Sorted.{IsStrictlySortedBy}
use Rattle.std.specs.Ordering.{nat_cmp}
use Rattle.replica_merge.specs.Lemmas.Words.{Part, part_at, filled}
use Rattle.replica_merge.proofs.merging.fill.Given as goal

abbrev pub invariant-loop-origin : goal.invariant-loop-origin
invariant-loop-origin l =
    record {
      at : (o : ℕ) → filled (part_at l.parts.entries o) (part_at l.origin-iterator o)
          ≡ filled (part_at l.initial.parts.entries o) (part_at l.initial.origin-iterator o);
      rest : IsStrictlySortedBy nat_cmp (map (λ (held : ℕ × Part). held.0) l.origin-iterator);
      rising : IsStrictlySortedBy nat_cmp (map (λ (held : ℕ × Part). held.0) l.parts.entries);
      can : (goal.iterator-loop-origin).can_next l.origin-iterator;
      finite : (goal.iterator-loop-origin).is_finite l.origin-iterator;
    }
