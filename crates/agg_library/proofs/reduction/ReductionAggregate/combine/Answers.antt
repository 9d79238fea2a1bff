use Rattle.std.proofs.Common.{ap, sym, ◌∙◌}
use Rattle.agg_protocol.specs.Lemmas.ArgumentLaws.{combined_lists}
use Rattle.agg_library.proofs.reduction.ReductionAggregate.combine.Goals as goal

pub returns-clause-of_lists : goal.returns-clause-of_lists
returns-clause-of_lists g c =
    let state = g.O.Of.Operand.denoted in let f = g.O.Operation.function in
    combined_lists f (state c.args.a) (state c.args.b) (state c.joined.result) (ap state c.joined.ensures
    ∙ sym (g.met.O.Of.Operand.combines f c.args.a c.args.b))
