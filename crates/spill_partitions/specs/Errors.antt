-- What a refusal of tapes is to partitions. All of this is our own.
use Rattle.std.specs.Prelude.{ℕ}
use Rattle.spill_tapes.specs.declared.error.TapeError.{TapeError}
use Rattle.spill_tapes.specs.declared.error.TapeError.TheVariants as tape
use Rattle.spill_partitions.specs.declared.error.SpillError.{SpillError}
use Rattle.spill_partitions.specs.declared.error.SpillError.TheVariants as spill

-- tapes that live never answer that they are dead
abbrev pub spill_error : TapeError → SpillError
spill_error tape.NoMemory = spill.NoMemory
spill_error tape.TapeFault = spill.TapeFault
spill_error tape.TapeDamaged = spill.TapeDamaged
spill_error tape.TapesDead = spill.NoMemory

-- how often the disk failed in a call that is refused so
abbrev pub spill_faults : SpillError → ℕ
spill_faults spill.TapeFault = 1
spill_faults _ = 0
