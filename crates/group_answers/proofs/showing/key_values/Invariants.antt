use Rattle.std.specs.Prelude.{◌≡◌, map, take}
use Rattle.grouping_model.specs.Aggregates.{Plain}
use Rattle.packed_rows.specs.View.{row_of}
use Rattle.agg_protocol.specs.Results.{outcome_of}
use Rattle.group_answers.proofs.showing.key_values.Given as goal

abbrev pub invariant-loop-value : goal.invariant-loop-value
invariant-loop-value l = map outcome_of l.values.items ≡ map Plain (row_of (take l.value-index l.key))
