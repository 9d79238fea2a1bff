use Rattle.std.proofs.Common.{◌≡◌, ◌++◌, [], take, slice_index_or}
use Rattle.std.specs.List.{zip}
use Rattle.table_print.specs.Aligned.{row_cells}
use Rattle.table_print.proofs.AlignedLaws.{joined_cells}
use Rattle.table_print.proofs.aligned_table.push_row.Given as goal

abbrev pub invariant-loop-item : goal.invariant-loop-item
invariant-loop-item l = l.out.items ≡ l.fn.out.items
    ++ joined_cells (take l.item (zip l.columns (row_cells (slice_index_or l.answer l.row []))))
