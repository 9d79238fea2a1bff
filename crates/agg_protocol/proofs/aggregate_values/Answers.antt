use Rattle.std.proofs.Common.{length, arith, take, slice_index_or, ◌<◌}
use Rattle.std.proofs.lemmas.List.{length-take}
use Rattle.packed_rows.specs.View.{datum_of, row_of}
use Rattle.packed_rows.specs.declared.Value.TheVariants.{Null}
use Rattle.agg_protocol.specs.States.{most_rows}
use Rattle.agg_protocol.specs.ArgumentLaws.{length-row_of}
use Rattle.agg_protocol.specs.Lemmas.ArgumentLaws.{takes_at, rows_after}
use Rattle.agg_protocol.proofs.aggregate_values.Goals as goal

pub transition-state-requires-clause-takes : goal.transition-state-requires-clause-takes
transition-state-requires-clause-takes g c =
    takes_at g.A.Aggregate.function c.args.values.now c.loop-value.value-index Null (omega arith) c.requires.takes

pub transition-state-requires-clause-few : goal.transition-state-requires-clause-few
transition-state-requires-clause-few g c =
    let before = row_of (take c.loop-value.value-index c.args.values.now) in
    let few : length before < most_rows = omega (
      arith,
      length-row_of (take c.loop-value.value-index c.args.values.now),
      length-take
          c.loop-value.value-index c.args.values.now,
    ) in
    rows_after g.A.Aggregate.function (g.A.Aggregate.denoted c.loop-value.state) before
    (datum_of (slice_index_or c.args.values.now c.loop-value.value-index Null)) c.loop-value.invariant few
