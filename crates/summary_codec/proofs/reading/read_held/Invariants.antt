use Rattle.summary_codec.specs.Reading.{part}
use Rattle.summary_codec.proofs.LoopLaws.{ReadSoFar}
use Rattle.summary_codec.proofs.reading.read_held.Given as goal

abbrev pub invariant-loop : goal.invariant-loop
invariant-loop l = ReadSoFar (part l.version l.query) l.count l.initial.fields l.counter l.parts.entries l.fields
