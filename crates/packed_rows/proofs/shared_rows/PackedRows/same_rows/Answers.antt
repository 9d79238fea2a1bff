use Rattle.packed_rows.proofs.SharedLaws.{same_more, no_difference}
use Rattle.packed_rows.proofs.shared_rows.PackedRows.same_rows.Goals as goal

pub loop-place-preserved : goal.loop-place-preserved
loop-place-preserved c =
    same_more c.args.self.now c.args.other.now c.loop-place.place c.row.result.now c.row-in-loop-place.result.now
    c.row.ensures c.row-in-loop-place.ensures
    (no_difference c.row.result.now c.row-in-loop-place.result.now c.if-ne.ensures)
    c.loop-place.invariant
