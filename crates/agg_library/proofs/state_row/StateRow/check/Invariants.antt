use Rattle.std.proofs.Common.{List, drop}
use Rattle.grouping_model.specs.Aggregates.{Partial}
use Rattle.agg_library.specs.StateRows.{DenotesAll}
use Rattle.agg_library.proofs.state_row.StateRow.check.Given as goal

abbrev pub invariant-loop-kind : goal.invariant-loop-kind
invariant-loop-kind l =
    ((ps : List Partial) → DenotesAll l.most (drop l.kind-index l.kinds) l.rest ps → (qs : List Partial) × DenotesAll l.most l.kinds l.row qs)
    × ((qs : List Partial) → DenotesAll l.most l.kinds l.row qs
    → (ps : List Partial) × DenotesAll l.most (drop l.kind-index l.kinds) l.rest ps)
