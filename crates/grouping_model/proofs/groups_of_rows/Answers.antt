use Rattle.grouping_model.specs.Lemmas.GroupLaws as laws
use Rattle.grouping_model.proofs.groups_of_rows.Goals as goal

pub returns : goal.returns
returns c = record { one_more_row = laws.part_one_more }
