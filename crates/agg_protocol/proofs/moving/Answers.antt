use Rattle.std.proofs.Common.{sym}
use Rattle.agg_protocol.specs.Lemmas.ArgumentLaws as laws
use Rattle.agg_protocol.proofs.moving.Goals as goal

pub returns : goal.returns
returns c = record { one_more = λ function xs value takes. sym (laws.one_more_taken function xs value takes); alone = laws.taken_alone }
