-- Where the tapes of a command lie. All of this is our own.
use Rattle.std.specs.Prelude.{Bool, true, false}
use Rattle.tape_disks.specs.Chosen.{failures_of, is_honest, is_last, writes_of}
use Rattle.tape_disks.specs.Files.{SystemState}
use Rattle.tape_disks.specs.declared.disk.TapeDisk as disks
use Rattle.tape_disks.specs.declared.seekable_file.SeekableFile as seekable
use Rattle.tape_disks.specs.declared.spill_disk.SpillDisk.{SpillDisk}
use Rattle.tape_disks.specs.declared.spill_disk.SpillDisk.TheVariants.{Memory, File}

-- whether tapes lie in memory, where they are honest; of a file of the system nothing is known
abbrev pub is_in_memory : {F : Type 0} → SpillDisk F → Bool
is_in_memory (Memory disk) = true
is_in_memory (File disk) = false

-- what is said of a file of the system that has tapes: it counts its failures, and is never called honest
abbrev pub system_file : {F : Type 0} → seekable.Ghosts (SystemState F)
system_file =
    record { failures = λ f. f.failures; honest = λ f. false; stands = λ f at. Unit {0}; last = λ f at byte. Unit {0} }

-- and of the disk of tapes of a command
abbrev pub command_tapes : {F : Type 0} → disks.Ghosts (SpillDisk (SystemState F))
command_tapes =
    record { failures = failures_of system_file; writes = writes_of; honest = is_honest system_file; last = is_last system_file }
