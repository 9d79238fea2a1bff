use Rattle.grouping_model.specs.KnowledgeLaws as laws
use Rattle.grouping_model.proofs.uniting.Goals as goal

pub returns-clause-commutative : goal.returns-clause-commutative
returns-clause-commutative c = laws.union_commutes

pub returns-clause-associative : goal.returns-clause-associative
returns-clause-associative c = laws.union_associates

pub returns-clause-idempotent : goal.returns-clause-idempotent
returns-clause-idempotent c = laws.union_itself

pub returns-clause-neutral : goal.returns-clause-neutral
returns-clause-neutral c = laws.nothing_union

pub returns-clause-members : goal.returns-clause-members
returns-clause-members c = laws.knows_union

pub returns-clause-learned : goal.returns-clause-learned
returns-clause-learned c = laws.knows_learn

pub returns-clause-determined : goal.returns-clause-determined
returns-clause-determined c = laws.same_knowledge
