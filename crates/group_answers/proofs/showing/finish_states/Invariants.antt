use Rattle.std.specs.Prelude.{◌≡◌, ℕ, ◌≤◌, List, map, take, drop}
use Rattle.grouping_model.specs.Aggregates.{Partial, outcome}
use Rattle.agg_protocol.specs.Results.{outcome_of}
use Rattle.agg_protocol.specs.States.{most_rows}
use Rattle.agg_library.specs.StateRows.{DenotesAll}
use Rattle.group_answers.proofs.showing.finish_states.Given as goal

abbrev pub invariant-loop-kind : goal.invariant-loop-kind
invariant-loop-kind l =
    record {
      shown : (most : ℕ) (ps : List Partial) → most ≤ most_rows → DenotesAll most l.kinds l.states ps → map outcome_of l.values.items
          ≡ map outcome (take l.kind-index ps);
      left : (most : ℕ) (ps : List Partial) → DenotesAll most l.kinds l.states ps
          → DenotesAll most (drop l.kind-index l.kinds) l.rest (drop l.kind-index ps);
    }
