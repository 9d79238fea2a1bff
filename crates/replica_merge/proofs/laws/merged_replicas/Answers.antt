use Rattle.replica_merge.specs.MergeLaws.{merge_told, merge_fits, merge_agree}
use Rattle.replica_merge.proofs.laws.merged_replicas.Goals as goal

pub returns : goal.returns
returns c = λ honest old other new result m. record {
  knows = merge_told honest old other new result m;
  fits = merge_fits honest old other new result m;
  apart = merge_agree honest old other new result m;
}
