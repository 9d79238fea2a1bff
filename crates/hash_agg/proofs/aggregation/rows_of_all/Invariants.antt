use Rattle.std.specs.Prelude.{◌≡◌, map, take}
use Rattle.hash_agg.specs.Inputs.{brought, all_rows}
use Rattle.hash_agg.proofs.aggregation.rows_of_all.Given as goal

abbrev pub invariant-loop-input : goal.invariant-loop-input
invariant-loop-input l = l.rows ≡ all_rows (map brought (take l.input-index l.inputs))
