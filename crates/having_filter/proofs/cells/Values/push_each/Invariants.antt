use Rattle.std.specs.Prelude.{◌≡◌, ◌++◌, map, take}
use Rattle.agg_protocol.specs.Results.{outcome_of}
use Rattle.having_filter.proofs.cells.Values.push_each.Given as goal

abbrev pub invariant-loop-value : goal.invariant-loop-value
invariant-loop-value l = l.self ≡ l.initial.self ++ map outcome_of (take l.value-index l.row)
