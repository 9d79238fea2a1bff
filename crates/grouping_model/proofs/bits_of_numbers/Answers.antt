use Rattle.grouping_model.specs.Lemmas.AggregateLaws as laws
use Rattle.grouping_model.proofs.bits_of_numbers.Goals as goal

pub returns : goal.returns
returns c = record { bits = laws.bit_is; fit = laws.bits_fit; determined = laws.same_from_64_bits }
