use Rattle.std.proofs.Common.{rules}
use Rattle.group_table.specs.Buckets.{number_at}
use Rattle.group_table.proofs.bucket.number.Goals as goal

pub returns : goal.returns
unfolding number_at
returns c = search (rules)
