use Rattle.script_machine.proofs.RunLaws.{front_of_all, right_whole}
use Rattle.script_machine.proofs.laws.outputs_as_a_whole.Goals as goal

pub returns : goal.returns
returns c = record { whole = right_whole; front = front_of_all }
