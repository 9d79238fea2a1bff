use Rattle.command_files.proofs.ReportingLaws.{says_more}
use Rattle.command_files.proofs.RunningLaws.{failure_said, stopped_before, stopped_behind}
use Rattle.command_files.proofs.session.Session.run_with.Goals as goal

pub returns-in-Err-clause-stopped : goal.returns-in-Err-clause-stopped
returns-in-Err-clause-stopped g c =
    let old = c.args.self.now.reporter in
    let said = says_more old c.set_progress.new.self c.try_before.new.self.reporter c.set_progress.ensures.says c.try_before.ensures.says in
    failure_said _ g.W.Write.contents c.args.subcommand c.args.matches.now c.in-Err.problem.why c.refuse.result old
    c.try_before.new.self.reporter c.refuse.new.self.reporter said c.requires.piped c.in-Err.ensures.why c.refuse.ensures.stops

pub returns-clause-stopped : goal.returns-clause-stopped
returns-clause-stopped g c sound =
    let old = c.args.self.now.reporter in
    let tried = says_more old c.set_progress.new.self c.try_before.new.self.reporter c.set_progress.ensures.says
    c.try_before.ensures.says in
    let said = says_more old c.try_before.new.self.reporter c.tell_standing.new.self.reporter tried c.tell_standing.ensures.says in
    let exit = c.run_seeded-exit.result in
    stopped_before _ g.W.Write.contents c.args.subcommand c.args.matches.now exit _ c.run_seeded-exit.new.self.reporter
    c.remove_spill.new.self.reporter c.remove_spill.ensures.says
    (stopped_behind _ g.W.Write.contents c.args.subcommand c.args.matches.now exit old c.tell_standing.new.self.reporter _ said.output
    (c.run_seeded-exit.ensures.stopped sound))
