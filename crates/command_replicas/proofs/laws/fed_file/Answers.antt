use Rattle.command_replicas.specs.ResultLaws as laws
use Rattle.command_replicas.proofs.laws.fed_file.Goals as goal

pub returns : goal.returns
returns c = λ honest file old new result f. record {
  took = laws.feed_took honest file old new result f;
  delivers = laws.feed_delivers honest file old new result f;
  agreed = laws.feed_agreed honest file old new result f;
  same = laws.feed_same honest file old new result f;
  why = laws.feed_why honest file old new result f;
  unknown = laws.feed_unknown honest file old new result f;
  disagree = laws.feed_disagree honest file old new result f;
  other = laws.feed_other honest file old new result f;
}
