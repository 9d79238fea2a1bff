use Rattle.summary_codec.specs.Lemmas.OneReading as one
use Rattle.summary_codec.proofs.laws.one_reading.Goals as goal

pub returns : goal.returns
returns c = record { one_reading = one.one_reading; one_fault = one.one_first_fault }
