use Rattle.std.proofs.Common.{sym}
use Rattle.script_commands.specs.Commands as ask
use Rattle.script_machine.proofs.StoreLaws.{answer_nowhere, answered, leaves_it, out_of_memory}
use Rattle.script_machine.proofs.session.Session.answer.Goals as goal

pub returns-in-None-clause-answers : goal.returns-in-None-clause-answers
returns-in-None-clause-answers c = λ honest owned. leaves_it c.self.view_is
    (answer_nowhere _ c.args.name.now owned (sym c.in-None.ensures.value))

pub returns-in-Ok-clause-answers : goal.returns-in-Ok-clause-answers
returns-in-Ok-clause-answers c = λ honest owned.
    leaves_it c.self.view_is (answered _ c.args.name.now owned c.in-Some.replica.now c.in-Ok.rows c.in-Ok.table c.self.invariant
    (sym c.in-Some.ensures.value) c.in-Ok.ensures)

pub returns-in-Err-clause-answers : goal.returns-in-Err-clause-answers
returns-in-Err-clause-answers c = λ honest owned. out_of_memory (ask.Answer c.args.name.now) owned c.args.self.now
