use Rattle.replica_merge.proofs.SameFiles.{same_bytes}
use Rattle.replica_merge.proofs.laws.same_files.Goals as goal

pub returns : goal.returns
returns c = λ world query a b is_a is_b fits_a fits_b same bytes those.
    same_bytes world query a b bytes those is_a is_b fits_a fits_b same
