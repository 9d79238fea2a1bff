use Rattle.having_filter.proofs.FittingLaws.{conditions_fit}
use Rattle.having_filter.proofs.laws.conditions_of_checked_queries.Goals as goal

pub returns : goal.returns
returns c = conditions_fit
