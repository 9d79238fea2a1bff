use Rattle.std.proofs.Common.{length}
use Rattle.spill_tapes.proofs.tape.Tape.+fill.Given as goal

abbrev pub decreases-fill : goal.decreases-fill
decreases-fill g l = length l.self.now.pages
