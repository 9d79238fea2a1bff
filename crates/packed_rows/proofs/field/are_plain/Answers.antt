use Rattle.packed_rows.proofs.FieldLaws.{all_plain, plain_more}
use Rattle.packed_rows.proofs.field.are_plain.Goals as goal

pub loop-byte-preserved : goal.loop-byte-preserved
loop-byte-preserved c =
    plain_more c.args.bytes.now c.loop-byte.byte-index _ c.loop-byte-test.true c.loop-byte.invariant c.if-byte-eq0.false
    c.if-byte-ge128.false

pub returns : goal.returns
returns c = λ yes. all_plain c.args.bytes.now c.loop-byte.byte-index c.loop-byte-test.false c.loop-byte.invariant
