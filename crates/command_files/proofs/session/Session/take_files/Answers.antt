use Rattle.std.specs.Prelude.{◌≡◌, refl, ℕ, ◌+◌, ◌<◌, ◌^◌, length}
use Rattle.std.proofs.Common.{◌∙◌, arith, rules, subst}
use Rattle.std.proofs.lemmas.Result.{err_from_is_err_and}
use Rattle.command_files.specs.Reporting.{output_of}
use Rattle.command_files.specs.Taking.{TakesAll, manner_of, state_of}
use Rattle.command_files.proofs.TakingLaws.{refuses_as, stops_at, takes_as, takes_more, takes_none_yet}
use Rattle.command_files.proofs.session.Session.take_files.Goals as goal

pub loop-path-init : goal.loop-path-init
loop-path-init g c = record {
  within = omega arith;
  place = refl;
  disk = refl;
  piped = c.set_files.ensures.says.piped;
  listed = refl;
  taken = takes_none_yet g.W.Write.contents _ 1 _ _ _ c.args.self.now.reporter c.set_files.new.self _ c.set_files.ensures.says;
}

pub loop-path-preserved : goal.loop-path-preserved
loop-path-preserved g c =
    let low = c.loop-path-test.true in
    let before = c.loop-path.invariant in
    let manner = manner_of c.args.kind c.args.means.now c.args.self.now.disk c.args.self.now.reporter.is_piped
    c.args.self.now.target.listed in
    let room : length c.args.paths.now < 2 ^ 64 = search rules in
    let next : c.saturating_add-place.result ≡ 1 + c.loop-path.path-index =
    omega (arith, low, before.place, c.saturating_add-place.ensures, room) in
    let took = takes_as c.args.kind c.args.means.now c.loop-path.self.disk c.args.self.now.disk c.loop-path.self.reporter.is_piped
    c.args.self.now.reporter.is_piped c.loop-path.self.target.listed c.args.self.now.target.listed _ _ _ _ _ _ before.disk before.piped
    before.listed c.in_ok-take_or_pass.ensures.takes in
    record {
      within = omega (arith, low);
      place = omega (arith, next);
      disk = c.take_or_pass.ensures.disk ∙ before.disk;
      piped = c.in_ok-take_or_pass.ensures.piped ∙ before.piped;
      listed = c.take_or_pass.ensures.listed ∙ before.listed;
      taken = takes_more manner 1 c.loop-path.path-index 1 _ _ _ _ _ _ before.taken (subst (λ n. TakesAll manner n 1
          (state_of c.loop-path.replica c.loop-path.self.disk c.loop-path.self.executor
          (output_of g.W.Write.contents c.loop-path.self.reporter))
          (state_of c.take_or_pass.new.replica c.take_or_pass.new.self.disk c.take_or_pass.new.self.executor
          (output_of g.W.Write.contents c.take_or_pass.new.self.reporter)) c.loop-path.self.passed c.take_or_pass.new.self.passed) next
          took);
    }

pub returns-clause-takes : goal.returns-clause-takes
returns-clause-takes g c =
    let within = c.loop-path.invariant.within in
    let past = c.loop-path-test.false in
    let all : c.loop-path.path-index ≡ length c.args.paths.now = omega (arith, within, past) in
    subst (λ (n : ℕ). TakesAll (manner_of c.args.kind c.args.means.now c.args.self.now.disk c.args.self.now.reporter.is_piped
    c.args.self.now.target.listed) 1 n
    (state_of c.args.replica.now c.args.self.now.disk c.args.self.now.executor (output_of g.W.Write.contents c.args.self.now.reporter))
    (state_of c.loop-path.replica c.loop-path.self.disk c.loop-path.self.executor (output_of g.W.Write.contents c.loop-path.self.reporter))
    c.args.self.now.passed c.loop-path.self.passed) all c.loop-path.invariant.taken

pub returns-in_err-take_or_pass-clause-why : goal.returns-in_err-take_or_pass-clause-why
returns-in_err-take_or_pass-clause-why g c =
    let before = c.loop-path.invariant in
    let low = c.loop-path-test.true in
    let old = c.args.self.now in
    let manner = manner_of c.args.kind c.args.means.now old.disk old.reporter.is_piped old.target.listed in
    let room : length c.args.paths.now < 2 ^ 64 = search rules in
    let next : c.saturating_add-place.result ≡ c.loop-path.path-index + 1 =
    omega (arith, low, before.place, c.saturating_add-place.ensures, room) in
    let p = err_from_is_err_and c.from_residual.result c.from_residual.ensures.1 in
    rw (p.1, p.2) (λ sound. let stopped = c.in_err-take_or_pass.ensures.why sound in (
      stopped.1.piped ∙ before.piped,
      stops_at g.W.Write.contents manner (length c.args.paths.now) c.loop-path.path-index c.saturating_add-place.result _
          c.loop-path.replica c.loop-path.self.disk c.loop-path.self.executor _ _ c.loop-path.self.reporter
          c.take_or_pass.new.self.reporter _ before.taken low next
          (refuses_as c.args.kind c.args.means.now c.loop-path.self.disk old.disk c.loop-path.self.reporter.is_piped
          old.reporter.is_piped c.loop-path.self.target.listed old.target.listed c.saturating_add-place.result c.loop-path.replica _
          before.disk before.listed stopped.0) stopped.1,
    ))
