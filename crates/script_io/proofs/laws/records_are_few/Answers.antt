use Rattle.script_io.specs.Lemmas.RecordFacts.{length-records_of}
use Rattle.script_io.proofs.laws.records_are_few.Goals as goal

pub returns : goal.returns
returns c = length-records_of
