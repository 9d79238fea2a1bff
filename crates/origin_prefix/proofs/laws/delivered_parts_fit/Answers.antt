use Rattle.origin_prefix.specs.Lemmas.FittingLaws.{fits_delivered}
use Rattle.origin_prefix.proofs.laws.delivered_parts_fit.Goals as goal

pub returns : goal.returns
returns c = λ honest so query world origin number old new those reply is part fits there d. fits_delivered honest so query world is origin
    old new number those reply part fits there d
