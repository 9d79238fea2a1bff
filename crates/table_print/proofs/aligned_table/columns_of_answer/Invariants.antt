use Rattle.std.proofs.Common.{◌≡◌, ◌∷◌, map, take}
use Rattle.having_filter.specs.Kept.{headers}
use Rattle.table_print.specs.Aligned.{columns_of, header_cells, row_cells, sides}
use Rattle.table_print.proofs.aligned_table.columns_of_answer.Given as goal

abbrev pub invariant-loop-item : goal.invariant-loop-item
invariant-loop-item l = l.columns.items ≡ take l.item (columns_of (sides l.query) (header_cells (headers l.query) ∷ map row_cells l.answer))
