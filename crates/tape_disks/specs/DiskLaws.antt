-- Laws of what calls leave of a disk: no call, and two, of which the first met no failure.
use Rattle.std.specs.Prelude.{refl, ℕ, ◌+◌}
use Rattle.std.proofs.Common.{◌∙◌, ap, sym}
use Rattle.std.proofs.Math.Nat.{add-zero, le_refl, le_trans, le_of_eq}
use Rattle.tape_disks.specs.declared.disk.TapeDisk.{Ghosts}
use Rattle.tape_disks.specs.Disk.{DiskFrame, OnlyReads}

pub leaves_none : {D : Type 0} (g : Ghosts D) (disk : D) → DiskFrame g 0 disk disk
leaves_none g disk = record { honesty = refl; failures = sym (add-zero (g.failures disk)); writes = le_refl (g.writes disk) }

pub leaves_twice : {D : Type 0} (g : Ghosts D) (faults : ℕ) (old mid new : D) → DiskFrame g 0 old mid → DiskFrame g faults mid new
    → DiskFrame g faults old new
leaves_twice g faults old mid new first second = record {
  honesty = second.honesty ∙ first.honesty;
  failures = second.failures ∙ ap (λ n. n + faults) (first.failures ∙ add-zero (g.failures old));
  writes = le_trans first.writes second.writes;
}

pub reads_none : {D : Type 0} (g : Ghosts D) (disk : D) → OnlyReads g 0 disk disk
reads_none g disk = record { honesty = refl; failures = sym (add-zero (g.failures disk)); writes = refl; keeps = λ _ _ had. had }

pub reads_leaves : {D : Type 0} (g : Ghosts D) (faults : ℕ) (old new : D) → OnlyReads g faults old new → DiskFrame g faults old new
reads_leaves g faults old new reads = record {
  honesty = reads.honesty;
  failures = reads.failures;
  writes = le_of_eq (sym reads.writes);
}
