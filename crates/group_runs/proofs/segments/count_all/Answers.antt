use Rattle.std.specs.Prelude.{◌≡◌, ◌+◌, ◌++◌, ◌∷◌, [], length, take, slice_get, Some}
use Rattle.std.proofs.Common.{sym, ◌∙◌, ap, arith}
use Rattle.std.proofs.lemmas.List.{length-set, take_more_set}
use Rattle.packed_rows.specs.ConcatenatedRowsLaws.{ends_append}
use Rattle.packed_rows.specs.ConcatenatedRows.{concatenated, ends_of}
use Rattle.group_runs.proofs.SegmentLaws.{got_by, next_start, front_few}
use Rattle.group_runs.specs.PlaceLaws.{take_found}
use Rattle.group_runs.proofs.segments.count_all.Goals as goal

pub overflow_add-count : goal.overflow_add-count
overflow_add-count c =
    let segments = c.args.segments.now in
    let at : slice_get segments c.loop-at.at ≡ Some c.index-segments-at.result = got_by segments c.loop-at.at c.index-segments-at.result
    c.loop-at-test.true c.index-segments-at.is in
    let next = next_start segments c.loop-at.at c.index-segments-at.result at in
    let few = front_few segments (c.loop-at.at + 1) in
    let counted = c.loop-at.invariant.counted in
    let long = c.len-count.ensures.length in
    let total = c.requires.few in
    omega (arith, next, few, counted, long, total)

pub loop-at-preserved : goal.loop-at-preserved
loop-at-preserved c =
    let segments = c.args.segments.now in
    let i = c.loop-at.at in
    let at : slice_get segments i ≡ Some c.index-segments-at.result = got_by segments i c.index-segments-at.result c.loop-at-test.true
    c.index-segments-at.is in
    let next = next_start segments i c.index-segments-at.result at in
    let counted = c.loop-at.invariant.counted in
    let long = c.len-count.ensures.length in
    let many = c.loop-at.invariant.many in
    let low = c.loop-at-test.true in
    let same : c.loop-at.count + c.len-count.result ≡ 0 + length (concatenated (take i segments))
    + length c.index-segments-at.result = omega (arith, counted, long) in
    record {
      many = length-set c.loop-at.ends.items i (c.loop-at.count + c.len-count.result) ∙ many;
      counted = omega (arith, next, counted, long);
      done =
          take_more_set c.loop-at.ends.items i (c.loop-at.count + c.len-count.result) (omega (arith, many, low))
          ∙ (λ j. c.loop-at.invariant.done j ++ same j ∷ [])
          ∙ sym (ends_append 0 (take i segments) (c.index-segments-at.result ∷ []))
          ∙ ap (ends_of 0) (sym (take_found segments i c.index-segments-at.result at));
    }
