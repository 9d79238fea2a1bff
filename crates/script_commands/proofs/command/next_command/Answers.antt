use Rattle.std.proofs.Common.{ap, ◌∙◌}
use Rattle.csv.specs.Records.{fields_of}
use Rattle.script_commands.specs.Commands.{commands_of}
use Rattle.script_commands.proofs.CommandLaws.{commands_next, commands_none}
use Rattle.script_commands.proofs.command.next_command.Goals as goal

pub returns-in_default-clause-found : goal.returns-in_default-clause-found
returns-in_default-clause-found c =
    let none = rw c.in_default.is at c.in_ok-head.ensures in
    ap commands_of none.0 ∙ commands_none

pub returns-clause-found : goal.returns-clause-found
returns-clause-found c =
    let next = rw c.in-Some.is at c.in_ok-head.ensures in
    ap commands_of next ∙ commands_next (fields_of c.in-Some.head) c.next.new.self
