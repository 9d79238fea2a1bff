use Rattle.command_files.specs.Running.{standpoint_of}
use Rattle.command_files.proofs.RunningLaws.{stopped_by}
use Rattle.command_files.proofs.session.Session.run_by.Goals as goal

pub returns-clause-stopped : goal.returns-clause-stopped
returns-clause-stopped g c =
    let old = c.args.self.now in
    let end = c.end.ensures in
    stopped_by g.W.Write.contents c.args.subcommand c.args.matches.now c.args.means.now
    (standpoint_of g.W.Write.contents old.disk old.executor old.target.listed old.passed old.reporter) old.reporter
    c.run_command-done.new.self.reporter c.explain.new.self.reporter c.end.new.self.reporter c.run_command-done.result c.end.result
    c.run_command-done.new.self.passed c.explain.new.self.passed c.end.new.self.passed c.run_command-done.ensures.ran
    c.run_command-done.ensures.why c.explain.ensures.says end.told end.stops end.done c.explain.ensures.passed end.passed
