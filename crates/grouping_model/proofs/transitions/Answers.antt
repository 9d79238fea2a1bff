use Rattle.grouping_model.specs.Lemmas.TransitionLaws as laws
use Rattle.grouping_model.proofs.transitions.Goals as goal

pub returns : goal.returns
returns c = record { argument = laws.one_more_argument; null = laws.null_passes; row = laws.one_more_row }
