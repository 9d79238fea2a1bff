use Rattle.replica_merge.specs.MergeLaws.{join_agreed, join_agree}
use Rattle.replica_merge.proofs.laws.joined_replicas.Goals as goal

pub returns : goal.returns
returns c = λ honest own theirs result is. record {
  agreed = join_agreed honest own theirs result is;
  apart = join_agree honest own theirs result is;
}
