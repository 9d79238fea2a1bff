use Rattle.std.proofs.Common.{◌≡◌, take}
use Rattle.grouping_model.specs.Aggregates.{partial}
use Rattle.packed_rows.specs.View.{row_of}
use Rattle.agg_protocol.proofs.aggregate_values.Given as goal

-- the state is that of the arguments so far
abbrev pub invariant-loop-value : goal.invariant-loop-value
invariant-loop-value g l = g.A.Aggregate.denoted l.state ≡ partial g.A.Aggregate.function (row_of (take l.value-index l.values))
