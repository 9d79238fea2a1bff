use Rattle.summary_codec.proofs.KnownLaws.{known_file}
use Rattle.summary_codec.proofs.laws.files_of_the_known.Goals as goal

pub returns : goal.returns
returns c = λ version query world other known same. known_file query world other known same version
