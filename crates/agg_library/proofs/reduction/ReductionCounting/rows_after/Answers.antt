use Rattle.std.proofs.Common.{ap, sym, ◌∙◌}
use Rattle.grouping_model.specs.Combining.{joined as joined_by}
use Rattle.packed_rows.specs.View.{datum_of}
use Rattle.agg_protocol.specs.States.{rows_of}
use Rattle.agg_library.proofs.reduction.ReductionCounting.rows_after.Goals as goal

pub returns : goal.returns
returns g c =
    let f = g.O.Operation.function in let value = datum_of c.args._value in
    sym (ap rows_of (g.met.O.Of.Operand.moves f c.args._state.now value)
    ∙ g.met.O.Of.Operand.uncounted (joined_by (g.O.Of.Operand.both_of f) c.args._state.now (g.O.Of.Operand.operand value)))
