-- A disk in memory, or in a file. All of this is our own.
use Rattle.std.specs.Prelude.{◌≡◌, ℕ, Bool, true}
use Rattle.tape_disks.specs.Memory.{byte_at}
use Rattle.tape_disks.specs.declared.seekable_file.SeekableFile.{Ghosts}
use Rattle.tape_disks.specs.declared.spill_disk.SpillDisk.{SpillDisk}
use Rattle.tape_disks.specs.declared.spill_disk.SpillDisk.TheVariants.{Memory, File}

abbrev pub failures_of : {F : Type 0} → Ghosts F → SpillDisk F → ℕ
failures_of g (Memory disk) = 0
failures_of g (File disk) = g.failures disk.file

abbrev pub writes_of : {F : Type 0} → SpillDisk F → ℕ
writes_of (Memory disk) = disk.count
writes_of (File disk) = disk.count

-- the one in memory is honest, and one in a file as honest as the file
abbrev pub is_honest : {F : Type 0} → Ghosts F → SpillDisk F → Bool
is_honest g (Memory disk) = true
is_honest g (File disk) = g.honest disk.file

abbrev pub is_last : {F : Type 0} → Ghosts F → SpillDisk F → ℕ → ℕ → Type 0
is_last g (Memory disk) place byte = byte_at disk place ≡ byte
is_last g (File disk) place byte = g.last disk.file place byte
