use Rattle.grouping_model.proofs.UnionLaws as laws
use Rattle.grouping_model.proofs.united_prefixes.Goals as goal

pub returns : goal.returns
returns c = record {
  longer = λ a b origin. (laws.left_shorter a b origin, laws.right_shorter a b origin);
  prefix = laws.united_prefix;
  early = laws.united_early;
  rows = laws.united_rows;
  origins = laws.united_origins;
}
