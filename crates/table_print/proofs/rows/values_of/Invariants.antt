use Rattle.std.proofs.Common.{◌≡◌, [], map, take, slice_index_or}
use Rattle.agg_protocol.specs.Results.{outcome_of}
use Rattle.table_print.proofs.rows.values_of.Given as goal

abbrev pub invariant-loop-item : goal.invariant-loop-item
invariant-loop-item l = map outcome_of l.values.items ≡ take l.item (slice_index_or l.answer l.row [])
