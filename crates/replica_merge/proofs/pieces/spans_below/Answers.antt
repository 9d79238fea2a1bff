use Rattle.std.specs.Prelude.{refl}
use Rattle.replica_merge.specs.declared.pieces.Span.{Span}
use Rattle.replica_merge.specs.Pieces.{bound_of}
use Rattle.replica_merge.proofs.PieceLaws.{next_by_end, next_one}
use Rattle.replica_merge.proofs.pieces.spans_below.Goals as goal

pub loop-span-preserved : goal.loop-span-preserved
loop-span-preserved c =
    let old : Span = c.span-item.result in
    let next : Span = record { part = old.part; from = old.to; to = c.end_below-to.result } in
    next_one (bound_of c.args.key) c.args.spans.now c.loop-span.next.items c.push.new.self.items c.loop-span.span-index old next
    c.loop-span-test.true c.span-item.is c.loop-span.invariant (next_by_end (bound_of c.args.key) old next refl refl c.end_below-to.ensures)
    c.in_ok-push.ensures.items
