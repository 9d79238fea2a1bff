use Rattle.script_io.specs.OutputLaws.{front-first, front-second}
use Rattle.script_io.proofs.OutputFacts.{front-kept}
use Rattle.script_io.proofs.laws.writes_compose.Goals as goal

pub returns-clause-first_stopped : goal.returns-clause-first_stopped
returns-clause-first_stopped c = λ a b d xs ys p k. front-first a d xs ys (front-kept a b d xs p k)

pub returns-clause-second_stopped : goal.returns-clause-second_stopped
returns-clause-second_stopped c = front-second
