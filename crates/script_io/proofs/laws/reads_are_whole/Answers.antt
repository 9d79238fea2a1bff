use Rattle.script_io.specs.InputLaws.{consumes-all, consumes-longer}
use Rattle.script_io.proofs.laws.reads_are_whole.Goals as goal

pub returns : goal.returns
returns c = record { whole = consumes-all; longer = λ old new most stops. consumes-longer old new stops.0 most stops.1 stops.2 }
