use Rattle.std.proofs.Common.{arith, sym}
use Rattle.csv.specs.Records.{fields_of}
use Rattle.script_commands.proofs.CommandLaws.{request_other}
use Rattle.script_commands.proofs.request.ask.Goals as goal

pub returns-in_default : goal.returns-in_default
returns-in_default c = sym (request_other (fields_of c.args.head.now) (λ e. grind (arith, e)) (λ e. grind (arith, e))
    (λ e. grind (arith, e)))
