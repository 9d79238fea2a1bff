use Rattle.std.proofs.Common.{◌≡◌, ◌∷◌, ◌++◌, [], map, take}
use Rattle.std.specs.List.{join_by}
use Rattle.agg_protocol.specs.Results.{outcome_of}
use Rattle.table_print.specs.Tsv.{tsv_cell}
use Rattle.table_print.proofs.tsv_table.push_line.Given as goal

abbrev pub invariant-loop-item : goal.invariant-loop-item
invariant-loop-item l = l.out.items ≡ l.fn.out.items ++ join_by tsv_cell (9 ∷ []) (take l.item (map outcome_of l.row))
