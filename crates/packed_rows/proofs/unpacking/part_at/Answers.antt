use Rattle.std.proofs.Common.{length}
use Rattle.packed_rows.proofs.RowLaws.{all_index, next_more, part_is}
use Rattle.packed_rows.proofs.unpacking.part_at.Goals as goal

pub loop-place-preserved : goal.loop-place-preserved
loop-place-preserved c =
    next_more c.args.places.now c.match-first.from c.loop-place.place-index _ c.loop-place.behind (length c.args.ends.now)
    c.loop-place-test.true c.loop-place.invariant c.if-place-behind.false
    (all_index (length c.args.ends.now) c.args.places.now c.loop-place.place-index _ c.requires.within c.loop-place-test.true)

pub returns : goal.returns
returns c = λ row lie.
    part_is c.args.places.now c.match-first.from c.loop-place.place-index c.loop-place.behind c.args.packed.now c.args.ends.now
    c.part_between.result.now row c.loop-place-test.false c.loop-place.auto.place-index-end c.loop-place.invariant lie
    (c.part_between.ensures row lie)
