use Rattle.std.proofs.Common.{◌≡◌, take}
use Rattle.agg_protocol.specs.Kinds.{row_width}
use Rattle.agg_library.specs.StateRows.{DenotesAll, initial_partials}
use Rattle.agg_library.proofs.state_row.StateRow.init_into.Given as goal

abbrev pub invariant-loop-kind : goal.invariant-loop-kind
invariant-loop-kind l =
    DenotesAll 0 (take l.kind-index l.kinds) (take l.start l.row) (initial_partials (take l.kind-index l.kinds))
    × (l.start ≡ row_width (take l.kind-index l.kinds))
