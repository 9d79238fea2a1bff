use Rattle.std.proofs.Common.{length}
use Rattle.replica_merge.proofs.pieces.+united.Given as goal

abbrev pub decreases-united : goal.decreases-united
decreases-united l = length l.spans.now
