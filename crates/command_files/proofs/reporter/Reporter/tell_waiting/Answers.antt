use Rattle.command_files.proofs.ReportingLaws.{says_more, says_nothing}
use Rattle.command_files.proofs.reporter.Reporter.tell_waiting.Goals as goal

pub loop-line-init : goal.loop-line-init
loop-line-init g c = says_nothing c.args.self.now

pub loop-line-preserved : goal.loop-line-preserved
loop-line-preserved g c = says_more c.args.self.now c.loop-line.self c.say.new.self c.loop-line.invariant c.say.ensures.says
