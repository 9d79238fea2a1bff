-- What the calls of a pass leave of a disk.
use Rattle.std.specs.Prelude.{◌≡◌, ◌≢◌, refl, IfErr, IsErrAnd, Ok, Err}
use Rattle.std.specs.declared.result.Result.{Result}
use Rattle.std.proofs.Common.{sym, subst}
use Rattle.std.proofs.lemmas.Result.{err_from_is_err_and}
use Rattle.tape_disks.specs.Calls.{failed}
use Rattle.hash_agg.proofs.Words.{DiskFrame, Ghosts, spill_faults, NoMemory, TapeFault, TapeDamaged}
use Rattle.tape_disks.specs.DiskLaws.{leaves_none}
use Rattle.spill_partitions.specs.declared.error.SpillError.{SpillError}

module _ {D : Type 0} (g : Ghosts D) where
  -- an error that a `?` hands on
  pub left_out : {T : Type 0} (r : Result T SpillError) (e : SpillError) (old new : D) → IsErrAnd r (λ x. x ≡ e)
      → DiskFrame g (spill_faults e) old new → DiskFrame g (failed spill_faults r) old new
  left_out r e old new given leaves =
      let p = err_from_is_err_and r given in
      subst (λ r. DiskFrame g (failed spill_faults r) old new) (sym p.1) (subst (λ e. DiskFrame g (spill_faults e) old new) (sym p.2)
      leaves)

  -- a call without a disk
  pub leaves_still : (e : SpillError) (disk : D) → e ≢ TapeFault → DiskFrame g (spill_faults e) disk disk
  leaves_still NoMemory disk none = leaves_none g disk
  leaves_still TapeFault disk none = absurd (none refl)
  leaves_still TapeDamaged disk none = leaves_none g disk

  pub still : {T : Type 0} (r : Result T SpillError) (disk : D) → IfErr r (λ e. e ≢ TapeFault)
      → DiskFrame g (failed spill_faults r) disk disk
  still (Ok x) disk none = leaves_none g disk
  still (Err e) disk none = leaves_still e disk none

  pub still_out : {T : Type 0} (r : Result T SpillError) (e : SpillError) (disk : D) → IsErrAnd r (λ x. x ≡ e) → e ≢ TapeFault
      → DiskFrame g (failed spill_faults r) disk disk
  still_out r e disk given none = left_out r e disk disk given (leaves_still e disk none)
