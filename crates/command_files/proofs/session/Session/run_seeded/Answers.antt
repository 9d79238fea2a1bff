use Rattle.std.specs.Prelude.{ℕ, Some}
use Rattle.std.proofs.Common.{◌∙◌, ap, sym}
use Rattle.command_files.proofs.ReportingLaws.{says_nothing}
use Rattle.command_files.proofs.RunningLaws.{failure_said, stopped_as}
use Rattle.command_files.proofs.session.Session.run_seeded.Goals as goal

pub returns-in-Ok-clause-stopped : goal.returns-in-Ok-clause-stopped
returns-in-Ok-clause-stopped g c sound =
    let old = c.args.self.now in
    stopped_as g.W.Write.contents c.args.subcommand c.args.matches.now c.in-Ok.means old.disk old.executor old.target.listed old.passed
    c.run_by.new.self.passed c.run_by.result old.reporter c.run_by.new.self.reporter
    (c.requires.limited ∙ ap (λ (n : ℕ). Some n) (sym c.in-Ok.ensures.limit)) c.run_by.ensures.within c.requires.stands
    (c.run_by.ensures.stopped sound)

pub returns-in-Err-clause-stopped : goal.returns-in-Err-clause-stopped
returns-in-Err-clause-stopped g c =
    let old = c.args.self.now.reporter in
    failure_said _ g.W.Write.contents c.args.subcommand c.args.matches.now c.in-Err.problem.why c.refuse.result old old
    c.refuse.new.self.reporter (says_nothing old) c.requires.stands.piped c.in-Err.ensures.why c.refuse.ensures.stops
