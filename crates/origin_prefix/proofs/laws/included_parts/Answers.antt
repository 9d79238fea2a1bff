use Rattle.origin_prefix.specs.Lemmas.IncludedLaws.{included}
use Rattle.origin_prefix.proofs.laws.included_parts.Goals as goal

pub returns : goal.returns
returns c = λ query own other is has. included query own other is has
