use Rattle.std.proofs.Common.{◌≡◌, ◌++◌, take}
use Rattle.std.specs.List.{zip}
use Rattle.having_filter.specs.Kept.{headers}
use Rattle.table_print.specs.Aligned.{header_cells}
use Rattle.table_print.proofs.AlignedLaws.{joined_cells}
use Rattle.table_print.proofs.aligned_table.push_header.Given as goal

abbrev pub invariant-loop-item : goal.invariant-loop-item
invariant-loop-item l = l.out.items ≡ l.fn.out.items ++ joined_cells (take l.item (zip l.columns (header_cells (headers l.query))))
