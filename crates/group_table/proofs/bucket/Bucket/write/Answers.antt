use Rattle.std.proofs.Common.{◌∙◌, arith}
use Rattle.group_table.proofs.BucketLaws.{same_name, in_use}
use Rattle.group_table.proofs.bucket.Bucket.write.Goals as goal

pub returns-clause-bucket : goal.returns-clause-bucket
returns-clause-bucket c =
    let key = c.set_name.new.bytes in
    let last = c.set_number-2.new.bytes in
    in_use last c.args.self
    (same_name last key 0 (c.set_number-2.ensures.before 0 (omega arith) ∙ c.set_number.ensures.before 0 (omega arith)
    ∙ c.set_name-2.ensures.before 0 (omega arith))
    (c.set_number-2.ensures.before 4 (omega arith) ∙ c.set_number.ensures.before 4 (omega arith)
    ∙ c.set_name-2.ensures.before 4 (omega arith))
    (c.set_number-2.ensures.before 8 (omega arith) ∙ c.set_number.ensures.before 8 (omega arith)
    ∙ c.set_name-2.ensures.before 8 (omega arith))
    ∙ c.set_name.ensures.set)
    (same_name last c.set_name-2.new.bytes 12 (c.set_number-2.ensures.before 12 (omega arith)
    ∙ c.set_number.ensures.before 12 (omega arith))
    (c.set_number-2.ensures.before 16 (omega arith) ∙ c.set_number.ensures.before 16 (omega arith))
    (c.set_number-2.ensures.before 20 (omega arith) ∙ c.set_number.ensures.before 20 (omega arith))
    ∙ c.set_name-2.ensures.set)
    (c.set_number-2.ensures.before 24 (omega arith) ∙ c.set_number.ensures.set)
    c.set_number-2.ensures.set
