use Rattle.packed_rows.specs.View.{kinds_of}
use Rattle.summary_codec.specs.Reading.{row}
use Rattle.summary_codec.proofs.LoopLaws.{ReadSoFar}
use Rattle.summary_codec.proofs.reading.read_rows.Given as goal

abbrev pub invariant-loop : goal.invariant-loop
invariant-loop l = ReadSoFar (row (kinds_of l.kinds)) l.count l.initial.fields l.counter l.rows l.fields
