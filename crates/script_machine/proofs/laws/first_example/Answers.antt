use Rattle.script_machine.proofs.ExampleLaws.{has_first_output}
use Rattle.script_machine.proofs.laws.first_example.Goals as goal

pub returns : goal.returns
returns c = has_first_output
