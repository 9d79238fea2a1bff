use Rattle.std.proofs.Common.{map, take}
use Rattle.agg_protocol.specs.Results.{outcome_of}
use Rattle.table_print.specs.Table.{cell_text}
use Rattle.script_io.specs.LineWriter.{IsBetween}
use Rattle.table_print.specs.Writer.{IsWithin}
use Rattle.table_print.proofs.csv_table.put_line.Given as goal

abbrev pub invariant-loop-value : goal.invariant-loop-value
invariant-loop-value l =
    IsBetween l.fn.writer → IsWithin l.fn.writer l.writer (map cell_text (map outcome_of (take l.value-index l.row)))
