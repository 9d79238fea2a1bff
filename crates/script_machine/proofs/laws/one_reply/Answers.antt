use Rattle.script_machine.proofs.ReplyLaws as laws
use Rattle.script_machine.proofs.SomeReply.{some_reply}
use Rattle.script_machine.proofs.laws.one_reply.Goals as goal

pub returns : goal.returns
returns c = record { not_two = laws.one_reply; not_none = some_reply }
