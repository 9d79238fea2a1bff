use Rattle.group_parser.specs.Lemmas.ParseLaws.{accepts_parses, refuses_parses, one_accepted, one_refused, not_both}
use Rattle.group_parser.proofs.laws.exactly_the_grammar.Goals as goal

pub returns-clause-parsed : goal.returns-clause-parsed
returns-clause-parsed c = accepts_parses

pub returns-clause-fault : goal.returns-clause-fault
returns-clause-fault c = refuses_parses

pub returns-clause-one_query : goal.returns-clause-one_query
returns-clause-one_query c = one_accepted

pub returns-clause-one_fault : goal.returns-clause-one_fault
returns-clause-one_fault c = one_refused

pub returns-clause-not_both : goal.returns-clause-not_both
returns-clause-not_both c = not_both
