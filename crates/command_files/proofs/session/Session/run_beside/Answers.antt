use Rattle.command_files.proofs.RunningLaws.{limit_refused}
use Rattle.command_files.proofs.session.Session.run_beside.Goals as goal

pub returns-in-Err-clause-stopped : goal.returns-in-Err-clause-stopped
returns-in-Err-clause-stopped g c =
    limit_refused _ g.W.Write.contents c.args.subcommand c.args.matches.now c.in-Err.why c.refuse_limit.result c.args.self.now.reporter
    c.refuse_limit.new.self.reporter c.requires.piped c.in-Err.ensures.why c.refuse_limit.ensures.stops
