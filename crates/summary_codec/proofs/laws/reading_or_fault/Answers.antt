use Rattle.summary_codec.specs.Lemmas.OneReading as one
use Rattle.summary_codec.proofs.laws.reading_or_fault.Goals as goal

pub returns : goal.returns
returns c = record { not_both = one.read_or_refused; not_neither = one.read_or_fault }
