use Rattle.query_tokens.specs.Lemmas.Legal.{name_read_legal}
use Rattle.query_tokens.proofs.laws.what_is_read.Goals as goal

pub returns-clause-name : goal.returns-clause-name
returns-clause-name c = name_read_legal
