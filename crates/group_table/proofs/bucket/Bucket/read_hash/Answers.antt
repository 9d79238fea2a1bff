use Rattle.std.proofs.Common.{rules, sym, subst, ◌∙◌}
use Rattle.group_table.specs.Buckets.{IsHashOf, bucket_in}
use Rattle.group_table.proofs.BucketLaws.{hash_read}
use Rattle.group_table.proofs.bucket.Bucket.read_hash.Goals as goal

pub returns-then-number-eq0 : goal.returns-then-number-eq0
unfolding bucket_in
returns-then-number-eq0 c = search (rules)

pub returns : goal.returns
returns c = subst (IsHashOf (bucket_in c.args.bytes.now)) (sym c.number-2.ensures)
    (hash_read c.args.bytes.now (λ none. c.if-number-eq0.false (c.number.ensures ∙ none)))
