use Rattle.std.specs.Prelude.{◌≡◌, ◌≤◌, ◌*◌, take}
use Rattle.spill_partitions.specs.Standing.{count_of}
use Rattle.spill_partitions.proofs.partitions.SpillPartitions.spilled.Given as goal

abbrev pub invariant-loop-partition : goal.invariant-loop-partition
invariant-loop-partition g l = (l.number ≡ count_of (take l.partition-index l.self.partitions))
    × (l.number ≤ l.partition-index * 18446744073709551615)
