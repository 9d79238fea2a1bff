use Rattle.having_filter.specs.Meaning.{meaning}
use Rattle.summary_codec.specs.Reading.{group}
use Rattle.summary_codec.proofs.LoopLaws.{ReadSoFar}
use Rattle.summary_codec.proofs.reading.read_run.Given as goal

abbrev pub invariant-loop : goal.invariant-loop
invariant-loop l = ReadSoFar (group (meaning l.query) l.most) l.count l.initial.fields l.counter l.run l.fields
