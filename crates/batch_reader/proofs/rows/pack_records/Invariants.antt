use Rattle.packed_rows.specs.Columns.{kinds}
use Rattle.batch_reader.specs.Rows.{records_of}
use Rattle.batch_reader.specs.Lemmas.RecordLaws.{RowsSoFar}
use Rattle.batch_reader.proofs.rows.pack_records.Given as goal

abbrev pub invariant-loop-row : goal.invariant-loop-row
invariant-loop-row l = RowsSoFar (kinds l.schema) (records_of l.records) l.row l.rows
