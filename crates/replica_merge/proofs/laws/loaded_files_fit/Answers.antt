use Rattle.replica_merge.proofs.WorldLaws.{loaded}
use Rattle.replica_merge.proofs.laws.loaded_files_fit.Goals as goal

pub returns : goal.returns
returns c = loaded
