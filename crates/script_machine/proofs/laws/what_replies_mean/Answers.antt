use Rattle.script_machine.proofs.ClaimLaws.{claim}
use Rattle.script_machine.proofs.laws.what_replies_mean.Goals as goal

pub returns : goal.returns
returns c = claim
