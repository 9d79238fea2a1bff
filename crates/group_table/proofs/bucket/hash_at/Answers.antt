use Rattle.std.proofs.Common.{rules}
use Rattle.group_table.specs.Buckets.{bucket_at}
use Rattle.group_table.proofs.bucket.hash_at.Goals as goal

pub returns : goal.returns
unfolding bucket_at
returns c = search (rules)
