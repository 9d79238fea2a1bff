use Rattle.std.proofs.Common.{ap, inl}
use Rattle.std.proofs.lemmas.Result.{err_from_is_err_and}
use Rattle.script_io.specs.Fused.{written}
use Rattle.command_files.proofs.RunningLaws.{cannot_begin, runs_command, stops_command}
use Rattle.command_files.proofs.session.Session.run_command.Goals as goal

pub returns : goal.returns
returns g c =
    let first = c.in_ok-replica.ensures in
    record {
      ran = runs_command g.W.Write.contents c.args.subcommand c.args.matches.now c.args.means.now c.in_ok-replica.replica _ _ _ _ _ _ _ _ _
          c.args.self.now.reporter c.first_replica.new.self.reporter _ c.perform-done.result first.begins first.disk
          first.work first.listed first.passed first.says c.perform-done.ensures.performs;
      why = stops_command g.W.Write.contents c.args.subcommand c.args.matches.now c.args.means.now c.in_ok-replica.replica _ _ _ _ _ _ _ _
          c.args.self.now.reporter c.first_replica.new.self.reporter c.perform-done.new.self.reporter c.perform-done.result first.begins
          first.disk first.work first.listed first.passed first.says c.perform-done.ensures.why;
    }

pub returns-in_err-replica-clause-why : goal.returns-in_err-replica-clause-why
returns-in_err-replica-clause-why g c =
    let first = c.in_err-replica.ensures in
    let p = err_from_is_err_and c.from_residual.result c.from_residual.ensures.1 in
    rw (p.1, p.2) (λ sound. (
      first.says.piped,
      inl (ap (written g.W.Write.contents) first.says.output, cannot_begin c.args.subcommand c.args.matches.now _ first.why sound),
    ))
