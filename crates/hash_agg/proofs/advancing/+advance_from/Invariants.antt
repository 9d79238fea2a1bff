use Rattle.std.proofs.Common.{length}
use Rattle.hash_agg.proofs.advancing.+advance_from.Given as goal

abbrev pub decreases-advance_from : goal.decreases-advance_from
decreases-advance_from l = length l.kinds.now
