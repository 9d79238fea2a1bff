-- What a failure of the disk is to tapes, and how often the disk failed in a call that is refused so. All of this is our own.
use Rattle.std.specs.Prelude.{ℕ}
use Rattle.tape_disks.specs.declared.disk.DiskError.{DiskError}
use Rattle.tape_disks.specs.declared.disk.DiskError.TheVariants as disk
use Rattle.spill_tapes.specs.declared.error.TapeError.{TapeError}
use Rattle.spill_tapes.specs.declared.error.TapeError.TheVariants as tape

abbrev pub tape_error : DiskError → TapeError
tape_error disk.NoMemory = tape.NoMemory
tape_error disk.TapeFault = tape.TapeFault

abbrev pub tape_faults : TapeError → ℕ
tape_faults tape.TapeFault = 1
tape_faults _ = 0
