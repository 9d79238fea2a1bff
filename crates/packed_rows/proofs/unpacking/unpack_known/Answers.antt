use Rattle.std.proofs.Common.{refl}
use Rattle.packed_rows.specs.View.{row_of}
use Rattle.packed_rows.proofs.RowLaws.{known_ended, known_more, known_next}
use Rattle.packed_rows.proofs.unpacking.unpack_known.Goals as goal

pub known_value-requires : goal.known_value-requires
known_value-requires c =
    known_next c.args.kinds.now c.loop-kind.kind-index _ c.args.bytes.now (row_of c.loop-kind.key.items) c.loop-kind.rest.now
    c.loop-kind.ends.items c.loop-kind-test.true c.loop-kind.invariant

pub loop-kind-preserved : goal.loop-kind-preserved
loop-kind-preserved c =
    rw (c.in_ok-push.ensures.items, c.in_ok-push-2.ensures.items)
    (known_more c.args.kinds.now c.loop-kind.kind-index _ c.args.bytes.now c.loop-kind.key.items c.known_value.result.0
    c.loop-kind.rest.now c.known_value.result.1.now c.loop-kind.ends.items _ c.loop-kind-test.true c.loop-kind.invariant
    c.known_value.ensures.kind c.known_value.ensures.spelled refl)

pub returns-clause-ends : goal.returns-clause-ends
returns-clause-ends c =
    (known_ended c.args.kinds.now c.loop-kind.kind-index c.args.bytes.now (row_of c.loop-kind.key.items) c.loop-kind.rest.now
    c.loop-kind.ends.items c.loop-kind-test.false c.loop-kind.invariant).2
