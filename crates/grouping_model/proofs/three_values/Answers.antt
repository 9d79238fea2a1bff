use Rattle.grouping_model.proofs.ConditionLaws as laws
use Rattle.grouping_model.proofs.three_values.Goals as goal

pub returns : goal.returns
returns c = record {
  and_commutes = laws.and_commutes;
  not_and = laws.not_and;
  not_not = laws.not_not;
  null_left = laws.null_left;
  null_right = laws.null_right;
  kept = laws.truth_kept;
}
