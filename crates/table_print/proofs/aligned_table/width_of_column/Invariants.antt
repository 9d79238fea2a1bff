use Rattle.std.proofs.Common.{◌≡◌, ◌∷◌, map, take}
use Rattle.table_print.specs.Aligned.{column_cells, longest, row_cells, shown}
use Rattle.table_print.proofs.aligned_table.width_of_column.Given as goal

abbrev pub invariant-loop-row : goal.invariant-loop-row
invariant-loop-row l = l.width ≡ longest (shown l.header ∷ column_cells (map row_cells (take l.row l.answer)) l.item)
