use Rattle.std.proofs.Common.{◌≡◌, ◌++◌, map, flat_map, take}
use Rattle.having_filter.specs.Kept.{headers}
use Rattle.table_print.specs.Aligned.{aligned_line, header_cells, row_cells, rule_line}
use Rattle.table_print.proofs.aligned_table.print_aligned.Given as goal

abbrev pub invariant-loop-row : goal.invariant-loop-row
invariant-loop-row l =
    l.text.items ≡ (aligned_line l.columns.items (header_cells (headers l.query)) ++ rule_line l.columns.items)
    ++ flat_map (aligned_line l.columns.items) (map row_cells (take l.row l.answer))
