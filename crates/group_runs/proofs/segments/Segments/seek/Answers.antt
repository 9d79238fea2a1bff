use Rattle.std.specs.Prelude.{◌≡◌, ◌+◌, drop}
use Rattle.std.proofs.Common.{subst, arith}
use Rattle.std.specs.List.{AllByRecursion}
use Rattle.group_runs.proofs.Words.{concatenated, IsNotBelow, IsPlaceOf}
use Rattle.group_runs.proofs.SegmentLaws.{next_start}
use Rattle.group_runs.proofs.PlaceLaws.{place_within}
use Rattle.group_runs.proofs.SeekLaws.{lies_there, place_in}
use Rattle.group_runs.proofs.segments.Segments.seek.Goals as goal

pub returns-then-low-high-clause-place : goal.returns-then-low-high-clause-place
returns-then-low-high-clause-place c =
    let between = c.narrow-low.ensures.between in
    let order = between.order in
    let past = c.if-low-high.true in
    let same : c.narrow-low.result.1 ≡ c.narrow-low.result.0 = omega (arith, order, past) in
    let within = between.within in
    record {
      behind = between.behind;
      within = omega (arith, order, within);
      below = between.below;
      not_below = subst (λ n. AllByRecursion (IsNotBelow c.args.key.now) (drop n (concatenated c.args.self.now))) same between.not_below;
    }

pub start-start-requires : goal.start-start-requires
start-start-requires c =
    let some = c.if-low-high.false in
    let there = lies_there c.args.self.now c.narrow-low.result.2 c.narrow-low.result.0 c.narrow-low.result.1 c.narrow-low.ensures.begun
    (omega (arith, some)) c.narrow-low.ensures.between.within in
    omega (arith, there)

pub segment-requires : goal.segment-requires
segment-requires c =
    let some = c.if-low-high.false in
    lies_there c.args.self.now c.narrow-low.result.2 c.narrow-low.result.0 c.narrow-low.result.1 c.narrow-low.ensures.begun
    (omega (arith, some)) c.narrow-low.ensures.between.within

pub seek-requires : goal.seek-requires
seek-requires c =
    let some = c.if-low-high.false in
    let next = next_start c.args.self.now c.narrow-low.result.2 c.segment.result.now c.segment.ensures in
    let started = c.start-start.ensures in
    let ended = c.narrow-low.ensures.ended in
    omega (arith, some, next, started, ended)

-- the key has its place in the segment
placed : (c : goal.After-seek) → IsPlaceOf (concatenated c.args.self.now) c.narrow-low.result.0 c.args.key.now (c.start-start.result
    + c.seek.result)
placed c =
    let between = c.narrow-low.ensures.between in
    let begun = c.narrow-low.ensures.begun in
    let started = c.start-start.ensures in
    place_in c.args.self.now c.narrow-low.result.2 c.narrow-low.result.0 c.narrow-low.result.1 c.segment.result.now c.start-start.result
    c.args.key.now c.seek.result c.segment.ensures started (omega (arith, begun, started)) between.order c.narrow-low.ensures.ended
    between.not_below c.seek.ensures.place

pub overflow_add-result : goal.overflow_add-result
overflow_add-result c =
    let within = (placed c).within in
    let counted = c.len-few_groups.ensures.length in
    let few = c.len-few_groups.type_inv in
    omega (arith, within, counted, few)

pub returns-clause-place : goal.returns-clause-place
returns-clause-place c =
    place_within (concatenated c.args.self.now) c.args.from c.narrow-low.result.0 c.narrow-low.result.1 c.args.key.now (c.start-start.result
    + c.seek.result) c.narrow-low.ensures.between (placed c)
