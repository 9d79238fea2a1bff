use Rattle.std.proofs.Common.{◌≡◌, [], take}
use Rattle.csv.specs.Records.{fields_of, partial_of}
use Rattle.packed_rows.specs.Columns.{names}
use Rattle.plain_batches.proofs.columns.names_of.Given as goal

abbrev pub invariant-loop-column : goal.invariant-loop-column
invariant-loop-column l = (fields_of l.all ≡ take l.column (names l.schema)) × (partial_of l.all ≡ [])
