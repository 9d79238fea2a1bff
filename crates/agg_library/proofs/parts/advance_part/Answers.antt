use Rattle.std.proofs.Common.{◌<◌, ◌∙◌, sym, subst, arith}
use Rattle.list_laws.specs.Outcomes.{always_err}
use Rattle.agg_protocol.specs.States.{Denotes, shape_of, rows_of}
use Rattle.agg_protocol.specs.DenotingLaws.{width_known}
use Rattle.agg_protocol.specs.Lemmas.Denoting.{once}
use Rattle.agg_library.specs.StateRows.{partial_after}
use Rattle.agg_library.proofs.ArgumentSteps.{advanced}
use Rattle.agg_library.proofs.parts.advance_part.Goals as goal

pub returns-in_err-state-clause-err : goal.returns-in_err-state-clause-err
returns-in_err-state-clause-err g c = always_err c.from_residual.result (λ p d. absurd (c.in_err-state.ensures.err p d))

pub returns-in_default-clause-ok : goal.returns-in_default-clause-ok
returns-in_default-clause-ok g c =
    let f = g.A.Aggregate.function in let p = g.A.Aggregate.denoted c.in_ok-state.state in let d = c.in_ok-state.ensures.ok in
    (p, d, subst (λ r. Denotes c.args.most (shape_of f) c.args.part.now (partial_after f p r)) (sym c.in_default.is) d)

pub rows_after-requires : goal.rows_after-requires
rows_after-requires g c = c.requires.takes c.in-Some.value c.in-Some.is

pub returns-then-rows_after-most-clause-err : goal.returns-then-rows_after-most-clause-err
returns-then-rows_after-most-clause-err g c =
    λ p d.
    let f = g.A.Aggregate.function in let state = g.A.Aggregate.denoted c.in_ok-state.state in
    subst (λ q. c.args.most < rows_of (partial_after f q c.args.reach)) (once c.args.most (shape_of f) c.args.part.now state p
    c.requires.most c.in_ok-state.ensures.ok d)
    (subst (λ r. c.args.most < rows_of (partial_after f state r)) (sym c.in-Some.is) (omega (arith, c.rows_after.ensures)))

pub serialize-requires : goal.serialize-requires
serialize-requires g c =
    width_known c.args.most (shape_of g.A.Aggregate.function) c.args.part.now (g.A.Aggregate.denoted c.in_ok-state.state)
    c.in_ok-state.ensures.ok ∙ sym g.met.A.Aggregate.fits

pub returns-clause-ok : goal.returns-clause-ok
returns-clause-ok g c = (
  g.A.Aggregate.denoted c.in_ok-state.state,
  c.in_ok-state.ensures.ok,
  advanced g.A.Aggregate.function c.args.most (g.A.Aggregate.denoted c.in_ok-state.state) (g.A.Aggregate.denoted c.transition-after.result)
      c.args.reach c.in-Some.value c.serialize.new.bytes
      c.in-Some.is c.transition-after.ensures.moves (omega (arith, c.if-rows_after-most.false, c.rows_after.ensures)) c.serialize.ensures,
)
