use Rattle.grouping_model.proofs.LearningLaws as laws
use Rattle.grouping_model.specs.Lemmas.LearningLaws as exported_laws
use Rattle.grouping_model.proofs.learning.Goals as goal

pub returns : goal.returns
returns c = record { known = laws.learn_known; stays = laws.prefix_stays; grows = laws.prefix_grows; next = exported_laws.next_unknown }
