use Rattle.std.proofs.Common.{length}
use Rattle.spill_partitions.proofs.partitions.+close_all.Given as goal

abbrev pub decreases-close_all : goal.decreases-close_all
decreases-close_all g l = length l.partitions.now
