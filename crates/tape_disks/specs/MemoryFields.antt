-- The fields of a disk in memory.
use Rattle.tape_disks.specs.Memory.{MemoryState, ArePages}
use Rattle.tape_disks.specs.declared.mem_disk.MemDisk.TheInside.{Inside}

abbrev pub memory_of : Inside → MemoryState
memory_of m = record { chunks = m.chunks.chunks; pages = m.pages.entries; count = m.count }

abbrev pub AreFields : Inside → Type 0
AreFields m = ArePages (memory_of m)
