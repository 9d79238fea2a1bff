use Rattle.script_io.proofs.OutputFacts.{front-all, front-none, front-short}
use Rattle.script_io.proofs.laws.fronts_range.Goals as goal

pub returns : goal.returns
returns c = record { none = front-none; all = front-all; short = front-short }
