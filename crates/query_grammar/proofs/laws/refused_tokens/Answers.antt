use Rattle.query_grammar.specs.Lemmas.FirstFaults.{unexpected_found, too_deep_found}
use Rattle.query_grammar.proofs.laws.refused_tokens.Goals as goal

pub returns-clause-unexpected_found : goal.returns-clause-unexpected_found
returns-clause-unexpected_found c = unexpected_found

pub returns-clause-too_deep_found : goal.returns-clause-too_deep_found
returns-clause-too_deep_found c = too_deep_found
