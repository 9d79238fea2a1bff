use Rattle.std.specs.Prelude.{◌≡◌, ℕ, ◌++◌, map, IsTrue}
use Rattle.std.specs.List.{AllByRecursion}
use Rattle.std.specs.List.Sorted.{IsStrictlySortedBy}
use Rattle.std.specs.Ordering.{nat_cmp}
use Rattle.replica_merge.specs.Lemmas.Words.{meaning, setting_by, Part, MergeIsCounted, Parts, part_at, part_of, IsHeldPart}
use Rattle.hash_agg.specs.Counting.{HasGrown}
use Rattle.tape_disks.specs.Disk.{DiskFrame}
use Rattle.replica_merge.specs.Lemmas.MergedLaws.{JoinedSoFar}
use Rattle.replica_merge.proofs.merging.join_all.Given as goal

abbrev pub invariant-loop-origin : goal.invariant-loop-origin
invariant-loop-origin g l =
    record {
      at : (o : ℕ) → JoinedSoFar (g.D.TapeDisk.honest l.fn.disk) l.query (part_of l.own.entries o) (part_at l.own.entries o)
          (part_at l.initial.origin-iterator o) (part_at l.origin-iterator o) (part_at l.joined.entries o);
      rest : IsStrictlySortedBy nat_cmp (map (λ (held : ℕ × Part). held.0) l.origin-iterator);
      held : AllByRecursion (IsHeldPart l.query) l.origin-iterator;
      rising : IsStrictlySortedBy nat_cmp (map (λ (held : ℕ × Part). held.0) l.joined.entries);
      disk : DiskFrame g.D.TapeDisk 0 l.fn.disk l.disk;
      grown : HasGrown l.means.limit l.fn.executor l.executor;
      front : Parts;
      parts : l.initial.origin-iterator ≡ front ++ l.origin-iterator;
      counted : IsTrue (g.D.TapeDisk.honest l.fn.disk)
          → MergeIsCounted l.own.entries front (meaning l.query) (setting_by g.H.KeyHash.hash_of (meaning l.query) l.means) l.fn.executor
          (g.D.TapeDisk.writes l.fn.disk) l.executor (g.D.TapeDisk.writes l.disk);
      can : (goal.iterator-loop-origin g).can_next l.origin-iterator;
      finite : (goal.iterator-loop-origin g).is_finite l.origin-iterator;
    }
