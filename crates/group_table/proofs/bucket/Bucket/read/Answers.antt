use Rattle.std.proofs.Common.{rules}
use Rattle.group_table.specs.Buckets.{bucket_in}
use Rattle.group_table.proofs.bucket.Bucket.read.Goals as goal

pub returns-then-number-eq0 : goal.returns-then-number-eq0
unfolding bucket_in
returns-then-number-eq0 c = search (rules)

pub returns : goal.returns
unfolding bucket_in
returns c = search (rules)
