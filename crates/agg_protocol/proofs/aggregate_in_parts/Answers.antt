use Rattle.std.proofs.Common.{arith}
use Rattle.packed_rows.specs.View.{row_of}
use Rattle.agg_protocol.specs.ArgumentLaws.{length-row_of}
use Rattle.agg_protocol.specs.Lemmas.ArgumentLaws.{rows_of_both}
use Rattle.agg_protocol.proofs.aggregate_in_parts.Goals as goal

pub combine-requires : goal.combine-requires
combine-requires g c =
    rows_of_both g.A.Aggregate.function (g.A.Aggregate.denoted c.aggregate_values.result)
    (g.A.Aggregate.denoted c.aggregate_values-2.result) (row_of c.args.first.now) (row_of c.args.second.now) c.aggregate_values.ensures
    c.aggregate_values-2.ensures
    (omega (arith, length-row_of c.args.first.now, length-row_of c.args.second.now))
