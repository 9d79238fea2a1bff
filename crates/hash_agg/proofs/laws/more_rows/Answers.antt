use Rattle.group_runs.specs.StandingLaws.{groups_raised}
use Rattle.hash_agg.proofs.laws.more_rows.Goals as goal

pub returns : goal.returns
returns c = record {
  groups = λ query m n run groups low are. groups_raised query m n run groups low are;
  run = λ query m n run low is. record { groups = is.groups; are = groups_raised query m n run is.groups low is.are; rises = is.rises };
}
