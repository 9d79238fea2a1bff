use Rattle.std.proofs.Common.{◌≡◌, codes, take}
use Rattle.std.specs.List.{join_by, zip}
use Rattle.having_filter.specs.Kept.{headers}
use Rattle.table_print.specs.AnswerColumns.{answer_column, item_types}
use Rattle.table_print.proofs.answer_columns.print_columns.Given as goal

abbrev pub invariant-loop-item : goal.invariant-loop-item
invariant-loop-item l = l.text.items ≡ join_by answer_column (codes ", ") (take l.item (zip (headers l.query) (item_types l.query)))
