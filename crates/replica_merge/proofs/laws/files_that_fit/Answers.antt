use Rattle.replica_merge.proofs.WorldLaws.{fits_by_file}
use Rattle.replica_merge.proofs.laws.files_that_fit.Goals as goal

pub returns : goal.returns
returns c = fits_by_file
