use Rattle.table_print.proofs.WriterLaws.{line_begins}
use Rattle.table_print.proofs.csv_table.put_line.Goals as goal

pub loop-value-init : goal.loop-value-init
loop-value-init c = line_begins c.args.writer.now
