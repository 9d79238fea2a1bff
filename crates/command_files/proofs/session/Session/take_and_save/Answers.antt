use Rattle.std.specs.Prelude.{length}
use Rattle.std.proofs.Common.{◌∙◌, inl, inr}
use Rattle.std.proofs.lemmas.Result.{err_from_is_err_and}
use Rattle.command_files.specs.Taking.{manner_of}
use Rattle.command_files.proofs.ReportingLaws.{says_more}
use Rattle.command_files.proofs.TakingLaws.{stops_behind}
use Rattle.command_files.proofs.session.Session.take_and_save.Goals as goal

pub returns-in_err-take_files-clause-why : goal.returns-in_err-take_files-clause-why
returns-in_err-take_files-clause-why g c =
    let p = err_from_is_err_and c.from_residual.result c.from_residual.ensures.1 in
    rw (p.1, p.2) (λ sound. let stopped = c.in_err-take_files.ensures.why sound in (stopped.0, inl stopped.1))

pub returns-in_err-save-clause-why : goal.returns-in_err-save-clause-why
returns-in_err-save-clause-why g c =
    let old = c.args.self.now in
    let taken = c.take_files.new.self in
    let manner = manner_of c.args.kind c.args.means.now old.disk old.reporter.is_piped old.target.listed in
    let p = err_from_is_err_and c.from_residual-in_err-save.result c.from_residual-in_err-save.ensures.1 in
    rw (p.1, p.2) (λ sound. let stopped = c.in_err-save.ensures.why sound in
    let said = says_more taken.reporter c.remove_spill.new.self.reporter c.save.new.self.reporter c.remove_spill.ensures.says stopped.1 in (
      said.piped ∙ c.in_ok-take_files.ensures.piped,
      inr (stops_behind g.W.Write.contents manner (length c.args.paths.now) _ c.take_files.new.replica taken.disk taken.executor _ _
          taken.reporter c.save.new.self.reporter _ c.in_ok-take_files.ensures.takes stopped.0 said),
    ))
