-- Laws: what follows of the tapes of a command.
use Rattle.std.specs.Prelude.{◌≡◌, refl}
use Rattle.tape_disks.specs.Chosen.{is_honest}
use Rattle.tape_disks.specs.Files.{SystemState}
use Rattle.tape_disks.specs.declared.spill_disk.SpillDisk.{SpillDisk}
use Rattle.tape_disks.specs.declared.spill_disk.SpillDisk.TheVariants.{Memory, File}
use Rattle.command_streams.specs.Disks.{is_in_memory, system_file}

-- they are honest where they lie in memory
pub honest_in_memory : {F : Type 0} (disk : SpillDisk (SystemState F)) → is_honest system_file disk ≡ is_in_memory disk
honest_in_memory (Memory disk) = refl
honest_in_memory (File disk) = refl
