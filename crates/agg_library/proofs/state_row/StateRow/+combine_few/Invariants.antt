use Rattle.std.proofs.Common.{length}
use Rattle.agg_library.proofs.state_row.StateRow.+combine_few.Given as goal

abbrev pub decreases-combine_few : goal.decreases-combine_few
decreases-combine_few l = length l.kinds.now
