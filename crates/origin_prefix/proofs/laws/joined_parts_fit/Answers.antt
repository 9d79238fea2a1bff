use Rattle.origin_prefix.specs.Lemmas.FittingLaws.{fits_joined}
use Rattle.origin_prefix.proofs.laws.joined_parts_fit.Goals as goal

pub returns : goal.returns
returns c = λ honest so query world origin a b new is fits_a fits_b joins. fits_joined honest so query world is origin a b new fits_a fits_b
    joins
