use Rattle.replica_merge.specs.Lemmas.EmptyLaws.{empty_fits, empty_knows}
use Rattle.replica_merge.proofs.laws.empty_replicas.Goals as goal

pub returns : goal.returns
returns c = record { fits = empty_fits; knows = empty_knows }
