use Rattle.std.proofs.Common.{arith}
use Rattle.chunk_contexts.proofs.ClassLaws.{class_found, room_last}
use Rattle.chunk_contexts.proofs.rooms.class_of.Goals as goal

pub returns-then-n-room_of-clause-value : goal.returns-then-n-room_of-clause-value
returns-then-n-room_of-clause-value c =
    class_found c.loop-class.class c.args.n (omega (arith, c.if-n-room_of.true, c.room_of.ensures.value)) c.loop-class-test.true
    c.loop-class.invariant

pub returns-clause-value : goal.returns-clause-value
returns-clause-value c = absurd (omega (arith, c.loop-class.invariant 10 (omega arith), room_last))

pub returns-clause-room : goal.returns-clause-room
returns-clause-room c = omega (arith, room_last)
