use Rattle.std.proofs.Common.{take}
use Rattle.having_filter.specs.Kept.{headers}
use Rattle.script_io.specs.LineWriter.{IsBetween}
use Rattle.table_print.specs.Writer.{IsWithin}
use Rattle.table_print.proofs.csv_table.put_headers.Given as goal

abbrev pub invariant-loop-item : goal.invariant-loop-item
invariant-loop-item l = IsBetween l.fn.writer → IsWithin l.fn.writer l.writer (take l.item (headers l.query))
