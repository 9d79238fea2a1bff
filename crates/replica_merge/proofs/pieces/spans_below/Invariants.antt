use Rattle.std.specs.Prelude.{take}
use Rattle.replica_merge.specs.Pieces.{AreNext, bound_of}
use Rattle.replica_merge.proofs.pieces.spans_below.Given as goal

abbrev pub invariant-loop-span : goal.invariant-loop-span
invariant-loop-span l = AreNext (bound_of l.key) (take l.span-index l.spans) l.next.items
