use Rattle.summary_codec.specs.Lemmas.WorldLaws.{part_fits}
use Rattle.summary_codec.proofs.laws.parts_of_worlds.Goals as goal

pub returns : goal.returns
returns c = part_fits
