-- How often the disk failed in a call that is refused so. This is our own.
use Rattle.std.specs.Prelude.{ℕ}
use Rattle.tape_disks.specs.declared.disk.DiskError.{DiskError}
use Rattle.tape_disks.specs.declared.disk.DiskError.TheVariants.{NoMemory, TapeFault}

abbrev pub disk_faults : DiskError → ℕ
disk_faults NoMemory = 0
disk_faults TapeFault = 1
