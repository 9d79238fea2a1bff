use Rattle.grouping_model.specs.Lemmas.TransitionLaws as laws
use Rattle.grouping_model.proofs.counting.Goals as goal

pub returns-clause-rows : goal.returns-clause-rows
returns-clause-rows c = laws.each_row_counts
