use Rattle.std.proofs.Common.{◌∙◌, arith}
use Rattle.group_table.proofs.BucketLaws.{bucket_set, bucket_beside}
use Rattle.group_table.proofs.bucket.set_bucket.Goals as goal

pub returns-clause-set : goal.returns-clause-set
returns-clause-set c = bucket_set c.args.place _ c.args.array.now c.write.new.bytes (omega arith) c.write.ensures.len c.requires
    ∙ c.write.ensures.bucket

pub returns-clause-others : goal.returns-clause-others
returns-clause-others c other differ = bucket_beside c.args.place _ other c.args.array.now c.write.new.bytes (omega arith)
    c.write.ensures.len c.requires differ
