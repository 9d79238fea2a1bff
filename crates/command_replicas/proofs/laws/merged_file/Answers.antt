use Rattle.command_replicas.specs.ResultLaws as laws
use Rattle.command_replicas.proofs.laws.merged_file.Goals as goal

pub returns : goal.returns
returns c = λ honest file old new result m. record {
  joined = laws.merge_joined honest file old new result m;
  knows = laws.merge_told honest file old new result m;
  fits = laws.merge_fits honest file old new result m;
  same = laws.merge_same honest file old new result m;
  why = laws.merge_why honest file old new result m;
  apart = laws.merge_agree honest file old new result m;
}
