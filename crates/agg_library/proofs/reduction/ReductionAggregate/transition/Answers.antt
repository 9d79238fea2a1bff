use Rattle.std.proofs.Common.{◌≡◌, ap, sym, ◌∙◌}
use Rattle.grouping_model.specs.Combining.{transition, joined as joined_by}
use Rattle.packed_rows.specs.View.{datum_of}
use Rattle.agg_protocol.specs.Lemmas.ArgumentLaws.{moved_list}
use Rattle.agg_library.proofs.reduction.ReductionAggregate.transition.Goals as goal

pub returns-clause-moves : goal.returns-clause-moves
returns-clause-moves g c =
    let f = g.O.Operation.function in let value = datum_of c.args.value in
    let moved : transition f (g.O.Of.Operand.denoted c.args.state) value
    ≡ g.O.Of.Operand.denoted (joined_by (g.O.Of.Operand.both_of f) c.args.state (g.O.Of.Operand.operand value)) =
    g.met.O.Of.Operand.moves f c.args.state value in
    ap g.O.Of.Operand.denoted (c.joined.ensures ∙ ap (joined_by (g.O.Of.Operand.both_of f) c.args.state) c.of.ensures) ∙ sym moved

pub returns-clause-of_list : goal.returns-clause-of_list
returns-clause-of_list g c =
    let state = g.O.Of.Operand.denoted in
    moved_list g.O.Operation.function (state c.args.state) (state c.joined.result) (datum_of c.args.value) c.requires.takes
    (returns-clause-moves g c)
