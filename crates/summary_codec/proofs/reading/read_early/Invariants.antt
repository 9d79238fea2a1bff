use Rattle.packed_rows.specs.Columns.{kinds}
use Rattle.summary_codec.specs.Gathered.{Rise}
use Rattle.summary_codec.specs.Reading.{batch}
use Rattle.summary_codec.proofs.LoopLaws.{ReadSoFar}
use Rattle.summary_codec.proofs.reading.read_early.Given as goal

abbrev pub invariant-loop : goal.invariant-loop
invariant-loop l = record {
  read : ReadSoFar (batch l.version (kinds l.schema) l.prefix) l.count l.initial.fields l.counter l.early l.fields;
  rising : Rise l.early;
}
