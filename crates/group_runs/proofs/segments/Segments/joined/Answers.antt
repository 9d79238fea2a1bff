use Rattle.std.specs.Prelude.{◌≡◌, ℕ, ◌+◌, ◌-◌, ◌<◌, ◌≤◌, ◌++◌, List, length, min, take, slice_range, slice_get, Some}
use Rattle.std.proofs.Common.{sym, ◌∙◌, ap, subst, arith}
use Rattle.std.proofs.lemmas.Bool.Decides.{nat_tests}
use Rattle.group_runs.proofs.Words.{Entry, Rises, concatenated, IsAmong}
use Rattle.group_runs.proofs.PlaceLaws.{range_parts}
use Rattle.group_runs.proofs.SeekLaws.{range_in}
use Rattle.group_runs.proofs.SegmentLaws.{got_low, got_same, next_start, range_rises}
use Rattle.group_runs.proofs.segments.Segments.joined.Goals.{After-segment}
use Rattle.group_runs.proofs.segments.Segments.joined.Goals as goal

-- where the groups that a segment has end
record Ends (segments : List (List Entry)) (left at start end to : ℕ) (segment : List Entry) : Type 0 where
  started : start ≡ length (concatenated (take at segments))
  behind : start ≤ left
  more : left < end
  within : end ≤ start + length segment
  upto : end ≤ to
  same : slice_range (concatenated segments) left end ≡ slice_range segment (left - start) (end - start)

ends : (segments : List (List Entry)) (left at start next end to : ℕ) (segment : List Entry) → slice_get segments at ≡ Some segment
    → start ≡ length (concatenated (take at segments)) → next ≡ length (concatenated (take (at + 1) segments)) → end ≡ min next to
    → IsAmong segments left at → left < to → Ends segments left at start end to segment
ends segments left at start next end to segment is started ended least among low =
    let long = ap length (got_same segments at among.segment segment among.is is) in
    let behind = among.behind in
    let inside = among.within in
    let whole = next_start segments at segment is in
    let first : start ≤ left = omega (arith, started, behind) in
    let past : left < next = omega (arith, ended, whole, long, inside) in
    let more : left < end = grind (arith, nat_tests, least, past, low) in
    let upto : end ≤ to = grind (arith, nat_tests, least) in
    let not_past : end ≤ next = grind (arith, nat_tests, least) in
    let within : end ≤ start + length segment = omega (arith, not_past, ended, whole, started) in
    record {
      started = started;
      behind = first;
      more = more;
      within = within;
      upto = upto;
      same = range_in segments at segment (left - start) (end - start) left end is (omega (arith, started, first))
          (omega (arith, started, first, more)) (omega (arith, more)) (omega (arith, within));
    }

here : (c : After-segment) → Ends c.args.self.now c.loop-left.left c.segment_of-at.result c.start-start.result c.min-end.result c.args.to
    c.segment.result.now
here c =
    ends c.args.self.now c.loop-left.left c.segment_of-at.result c.start-start.result c.start.result c.min-end.result c.args.to
    c.segment.result.now c.segment.ensures c.start-start.ensures c.start.ensures c.min-end.ensures c.segment_of-at.ensures
    c.loop-left-test.true

pub overflow_add-at : goal.overflow_add-at
overflow_add-at c =
    let low = got_low c.args.self.now c.segment_of-at.result c.segment_of-at.ensures.segment c.segment_of-at.ensures.is in
    let counted = c.count-few_segments.ensures in
    let few = c.count-few_segments.type_inv in
    omega (arith, low, counted, few)

pub overflow_sub-end : goal.overflow_sub-end
overflow_sub-end c =
    let e = here (goal.at.overflow_sub-end c).After-segment in
    let behind = e.behind in
    let more = e.more in
    omega (arith, behind, more)

pub push_range-requires-clause-order : goal.push_range-requires-clause-order
push_range-requires-clause-order c =
    let e = here (goal.at.push_range-requires-clause-order c).After-segment in
    let more = e.more in
    omega (arith, more)

pub push_range-requires-clause-within : goal.push_range-requires-clause-within
push_range-requires-clause-within c =
    let e = here (goal.at.push_range-requires-clause-within c).After-segment in
    let within = e.within in
    omega (arith, within)

-- the groups up to there, by those before
next : (c : After-segment) → slice_range (concatenated c.args.self.now) c.args.from c.min-end.result
    ≡ c.loop-left.joined ++ slice_range c.segment.result.now (c.loop-left.left - c.start-start.result)
    (c.min-end.result - c.start-start.result)
next c =
    let e = here c in
    let more = e.more in
    range_parts (concatenated c.args.self.now) c.args.from c.loop-left.left c.min-end.result c.loop-left.invariant.begun
    (omega (arith, more))
    ∙ (λ i. sym c.loop-left.invariant.joined i ++ e.same i)

pub push_range-requires-clause-rises : goal.push_range-requires-clause-rises
push_range-requires-clause-rises c =
    subst Rises (next (goal.at.push_range-requires-clause-rises c).After-segment)
    (range_rises (concatenated c.args.self.now) c.args.from c.min-end.result c.len-few_groups.ensures.rises)

pub loop-left-smaller : goal.loop-left-smaller
loop-left-smaller c =
    let e = here (goal.at.loop-left-smaller c).After-segment in
    let more = e.more in
    let upto = e.upto in
    omega (arith, more, upto)

pub loop-left-preserved : goal.loop-left-preserved
loop-left-preserved c =
    let s = (goal.at.loop-left-preserved c).After-segment in
    let e = here s in
    let more = e.more in
    let begun = c.loop-left.invariant.begun in
    record {
      begun = omega (arith, more, begun);
      within = e.upto;
      joined = c.in_ok-push_range.ensures.pushed ∙ sym (next s);
    }
