use Rattle.command_files.specs.Reporting.{OnlySays}
use Rattle.command_files.proofs.reporter.Reporter.tell_waiting.Given as goal

abbrev pub invariant-loop-line : goal.invariant-loop-line
invariant-loop-line g l = OnlySays l.fn.self l.self
