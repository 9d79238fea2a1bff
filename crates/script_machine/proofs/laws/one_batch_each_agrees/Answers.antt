use Rattle.script_machine.specs.Machine.{start}
use Rattle.script_machine.proofs.AgreementLaws.{agrees}
use Rattle.script_machine.proofs.laws.one_batch_each_agrees.Goals as goal

pub returns : goal.returns
returns c = λ feds commands replies one among. agrees feds one start commands replies among
