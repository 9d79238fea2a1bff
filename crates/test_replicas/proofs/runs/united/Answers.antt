use Rattle.test_replicas.proofs.runs.united.Goals as goal

pub aggregate-united-requires-clause-inputs : goal.aggregate-united-requires-clause-inputs
aggregate-united-requires-clause-inputs c = (c.requires.early, (c.requires.late, tt))
