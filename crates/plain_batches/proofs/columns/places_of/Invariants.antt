use Rattle.std.proofs.Common.{take}
use Rattle.csv.specs.Records.{fields_of}
use Rattle.plain_batches.specs.Columns.{ArePlaces}
use Rattle.plain_batches.proofs.columns.places_of.Given as goal

abbrev pub invariant-loop-column : goal.invariant-loop-column
invariant-loop-column l = ArePlaces (fields_of l.header) (take l.column (fields_of l.names)) l.places.items
