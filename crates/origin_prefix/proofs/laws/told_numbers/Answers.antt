use Rattle.origin_prefix.specs.Lemmas.TellingLaws.{delivered_tells, joined_tells}
use Rattle.origin_prefix.proofs.laws.told_numbers.Goals as goal

pub returns : goal.returns
returns c = record {
  delivered = λ honest query q old new number rows reply is low d m. delivered_tells honest query q old new number rows reply is low d m;
  joined = λ honest query q a b new is_a is_b joins m. joined_tells honest query q a b new is_a is_b joins m;
}
