use Rattle.grouping_model.proofs.AnswerLaws as laws
use Rattle.grouping_model.specs.Lemmas.AnswerLaws as exported_laws
use Rattle.grouping_model.proofs.answers_of_the_known.Goals as goal

pub returns : goal.returns
returns c = record { listed = laws.knowing_listed; same_knowledge = laws.same_answer; known_alone = exported_laws.known_alone }
