use Rattle.std.specs.Prelude.{List}
use Rattle.std.proofs.Common.{drop}
use Rattle.tape_disks.specs.Disk.{DiskFrame}
use Rattle.spill_partitions.proofs.Words.{Record, PendingPartition, partitions_of, HasPartitions, pages_of, written_pages}
use Rattle.spill_partitions.proofs.PageLaws.{IsPaged}
use Rattle.spill_partitions.proofs.PassLaws.{IsEnding}
use Rattle.spill_partitions.proofs.partitions.SpillPartitions.end_pass.Given as goal

abbrev pub invariant-loop-place : goal.invariant-loop-place
invariant-loop-place g l = record {
  pages :
      (spilled ahead : List Record) (pending : List PendingPartition)
      → HasPartitions (g.D.TapeDisk.last l.fn.disk) l.fn.self spilled ahead pending
      → IsPaged (g.D.TapeDisk.last l.disk) l.self.tapes (drop l.place l.partitions.items) (g.D.TapeDisk.writes l.fn.disk)
      (pages_of (partitions_of l.fn.self.level spilled)) (written_pages l.fn.self) (g.D.TapeDisk.writes l.disk);
  partitions : IsEnding (g.D.TapeDisk.last l.fn.disk) (g.D.TapeDisk.last l.disk) l.fn.self l.self (drop l.place l.partitions.items);
  disk : DiskFrame g.D.TapeDisk 0 l.fn.disk l.disk;
}
