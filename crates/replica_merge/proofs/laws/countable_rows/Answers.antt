use Rattle.replica_merge.proofs.AnswerLaws.{few_parts}
use Rattle.replica_merge.proofs.laws.countable_rows.Goals as goal

pub returns : goal.returns
returns c = few_parts
