use Rattle.csv.specs.Records.{fields_of}
use Rattle.packed_rows.specs.Columns.{kinds}
use Rattle.packed_rows.specs.Lemmas.RowLaws.{PackedSoFar}
use Rattle.batch_reader.proofs.rows.pack_record.Given as goal

abbrev pub invariant-loop-column : goal.invariant-loop-column
invariant-loop-column l = PackedSoFar (kinds l.schema) (fields_of l.csv_record) l.column l.packed.items
