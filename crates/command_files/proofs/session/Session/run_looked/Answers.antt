use Rattle.std.specs.Prelude.{Option, Result, IfErr}
use Rattle.std.proofs.Common.{subst}
use Rattle.out_files.specs.declared.out.Standing.{Standing}
use Rattle.command_streams.specs.declared.problem.Problem.{Problem}
use Rattle.command_files.specs.Causes.{IsFailure}
use Rattle.command_files.proofs.ReportingLaws.{says_nothing}
use Rattle.command_files.proofs.RunningLaws.{failure_said}
use Rattle.command_files.proofs.session.Session.run_looked.Goals as goal

pub returns-in-Err-clause-stopped : goal.returns-in-Err-clause-stopped
returns-in-Err-clause-stopped g c =
    let old = c.args.self.now.reporter in
    let failed = subst (λ (r : Result (Option Standing) Problem). IfErr r (λ problem. IsFailure problem.why)) c.in-Err.is
    c.requires.failed in
    failure_said _ g.W.Write.contents c.args.subcommand c.args.matches.now c.in-Err.problem.why c.refuse.result old old
    c.refuse.new.self.reporter (says_nothing old) c.requires.piped failed c.refuse.ensures.stops
