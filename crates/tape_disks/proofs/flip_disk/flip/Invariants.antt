use Rattle.std.specs.Prelude.{◌≡◌, ◌+◌, ◌<◌, ◌≤◌, ℕ, length, get_or}
use Rattle.tape_disks.specs.Faulty.{flipped}
use Rattle.tape_disks.proofs.flip_disk.flip.Given as goal

abbrev pub invariant-loop-offset : goal.invariant-loop-offset
invariant-loop-offset l = record {
  len : length l.bytes ≡ length l.initial.bytes;
  done : (k : ℕ) → k < l.offset → get_or l.bytes k 0 ≡ flipped l.at l.mask (l.from + k) (get_or l.initial.bytes k 0);
  rest : (k : ℕ) → l.offset ≤ k → get_or l.bytes k 0 ≡ get_or l.initial.bytes k 0;
}
