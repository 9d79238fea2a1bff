use Rattle.std.specs.Prelude.{take}
use Rattle.std.proofs.Common.{sym, subst, arith}
use Rattle.group_runs.proofs.Words.{Entry, concatenated, IsAmong, AreBefore, ComeInto}
use Rattle.group_runs.specs.Places.{AllBelow}
use Rattle.group_runs.proofs.SegmentLaws.{front_few, got_low}
use Rattle.group_runs.proofs.ComeLaws.{IsFor, for_place, for_last, comes_up_to, comes_all}
use Rattle.group_runs.specs.PlaceLaws.{drop_at}
use Rattle.group_runs.proofs.segments.Segments.part.Goals as goal
use Rattle.group_runs.proofs.segments.Segments.part.Goals.{After-row_known-1, then-place-count, else-place-count}

pub seek-place-requires : goal.seek-place-requires
seek-place-requires c =
    let few = front_few c.args.self.now c.args.first in
    let is = c.start.ensures in
    omega (arith, few, is)

-- the segment into which the first of the groups comes
for_segment : (c : After-row_known-1) → IsFor c.args.self.now c.args.first c.group.result.0.now c.if-place-count.at
for_segment c =
    let e : Entry = (c.group.result.0.now, c.group.result.1.now) in
    let before : AllBelow e.0 (concatenated (take c.args.first c.args.self.now)) =
    (subst (AreBefore (concatenated (take c.args.first c.args.self.now))) (drop_at (concatenated c.args.more.now) c.args.from e
    c.group.ensures) c.requires.above).0 in
    elim c.if-place-count.branch [
      | then-place-count w ↦
          let test = w.if-place-count.true in
          let counted = c.len-count.ensures.length in
          for_place c.args.self.now c.args.first c.start.result e.0 c.seek-place.result c.if-place-count.at c.len-count.ensures.rises
          c.start.ensures before c.seek-place.ensures.place (omega (arith, test, counted))
          (subst (IsAmong c.args.self.now c.seek-place.result) (sym w.at-is) w.segment_of-at.ensures)
      | else-place-count w ↦
          let test = w.if-place-count.false in
          let counted = c.len-count.ensures.length in
          let many = c.count-last.ensures in
          let there = c.requires.there in
          let is = w.at-is in
          for_last c.args.self.now c.args.first c.start.result e.0 c.seek-place.result c.if-place-count.at c.start.ensures before
          c.seek-place.ensures.place (omega (arith, test, counted)) there (omega (arith, many, there, is))
    ]

pub overflow_add-at : goal.overflow_add-at
overflow_add-at c =
    let for = for_segment (goal.at.overflow_add-at c).After-row_known-1 in
    let low = got_low c.args.self.now c.if-place-count.at for.segment for.is in
    let many = c.count-last.ensures in
    let fits = c.count-last.type_inv in
    omega (arith, low, many, fits)

pub returns-then-end-count : goal.returns-then-end-count
returns-then-end-count c =
    let e : Entry = (c.group.result.0.now, c.group.result.1.now) in
    let for = for_segment (goal.at.returns-then-end-count c).After-row_known-1 in
    comes_up_to c.args.self.now c.args.first c.if-place-count.at (concatenated c.args.more.now) c.args.from e c.len-count.ensures.rises
    c.seek.ensures.rises c.group.ensures for c.start-end.result
    (c.group-then-end-count.result.0.now, c.group-then-end-count.result.1.now) c.seek.result c.start-end.ensures
    c.group-then-end-count.ensures c.seek.ensures.place

pub returns-else-end-count : goal.returns-else-end-count
returns-else-end-count c =
    let e : Entry = (c.group.result.0.now, c.group.result.1.now) in
    let for = for_segment (goal.at.returns-else-end-count c).After-row_known-1 in
    let past = c.if-end-count.false in
    let counted = c.len-count.ensures.length in
    subst (ComeInto c.args.self.now c.args.first (concatenated c.args.more.now) c.args.from c.if-place-count.at)
    (sym c.len-else-end-count.ensures.length)
    (comes_all c.args.self.now c.args.first c.if-place-count.at (concatenated c.args.more.now) c.args.from e c.len-count.ensures.rises
    c.len.ensures.rises c.group.ensures for c.start-end.result c.start-end.ensures (omega (arith, past, counted)))
