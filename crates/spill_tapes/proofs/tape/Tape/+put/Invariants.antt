use Rattle.std.proofs.Common.{length}
use Rattle.spill_tapes.proofs.tape.Tape.+put.Given as goal

abbrev pub decreases-put : goal.decreases-put
decreases-put g l = length l.bytes.now
