use Rattle.grouping_model.specs.Lemmas.PrefixLaws as laws
use Rattle.grouping_model.proofs.unbroken_prefix.Goals as goal

pub returns : goal.returns
returns c = record { unbroken = laws.prefix_unbroken; largest = laws.prefix_largest }
