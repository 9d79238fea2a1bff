use Rattle.having_filter.specs.Meaning.{meaning}
use Rattle.origin_prefix.specs.Lemmas.FittingLaws.{agrees_delivered, agrees_joined}
use Rattle.origin_prefix.proofs.laws.fitting_parts_agree.Goals as goal

pub returns : goal.returns
returns c = record {
  batch = λ query world origin number old those fits there. agrees_delivered (meaning query) world origin old number those fits there;
  part = λ query world origin a b fits_a fits_b. agrees_joined (meaning query) world origin a b fits_a fits_b;
}
