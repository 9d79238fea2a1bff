use Rattle.std.specs.Prelude.{◌≡◌, ◌+◌, ◌++◌, ℕ, drop, slice_range}
use Rattle.std.proofs.Common.{sym, ◌∙◌, ap, subst, arith}
use Rattle.std.proofs.lemmas.List.{take_rest}
use Rattle.group_runs.proofs.Words.{Entry, Rises, concatenated, AreGroups, AddsRun}
use Rattle.group_runs.specs.Places.{AllBelow}
use Rattle.group_runs.specs.StandingLaws.{groups_raised}
use Rattle.group_runs.proofs.RunLaws.{room_next, added_next, added_all, rises_of}
use Rattle.group_runs.proofs.SegmentLaws.{get_range, range_long}
use Rattle.group_runs.proofs.PlaceLaws.{all_up_to, keys_next}
use Rattle.group_runs.proofs.segment.Segment.merged.Goals as goal

pub loop-place-init : goal.loop-place-init
loop-place-init c =
    let none = c.in_ok-merged.ensures in
    record {
      within = omega arith;
      rises = subst (λ run. Rises (run ++ c.args.self.now)) (sym none) c.len-count.ensures.rises;
      below = λ e at. subst (AllBelow e.0) (sym none) tt;
      added = λ q same m n groups more low are new. subst (λ run. AreGroups q (m + n) (run ++ c.args.self.now) groups)
          (sym none) (groups_raised q m (m + n) c.args.self.now groups (omega arith) are);
    }

pub merge_group-requires-clause-below : goal.merge_group-requires-clause-below
merge_group-requires-clause-below c =
    let at = get_range (concatenated c.args.more.now) c.args.from c.args.to c.loop-place.place (c.group.result.0.now, c.group.result.1.now)
    c.group.ensures c.loop-place-test.true in
    c.loop-place.invariant.below (c.group.result.0.now, c.group.result.1.now) at

pub merge_group-requires-clause-room : goal.merge_group-requires-clause-room
merge_group-requires-clause-room c =
    let at = get_range (concatenated c.args.more.now) c.args.from c.args.to c.loop-place.place (c.group.result.0.now, c.group.result.1.now)
    c.group.ensures c.loop-place-test.true in
    let (q, same, has) = c.requires.room in
    (q, same, room_next q _ _ _ c.loop-place.place (c.loop-place.invariant.added q same) _ at has)

pub loop-place-preserved : goal.loop-place-preserved
loop-place-preserved c =
    let i : ℕ = c.loop-place.place in
    let entry : Entry = (c.group.result.0.now, c.group.result.1.now) in
    let here = get_range (concatenated c.args.more.now) c.args.from c.args.to i entry c.group.ensures c.loop-place-test.true in
    let left = c.in_ok-left.ensures in
    record {
      within = left.within;
      rises = left.rises;
      below = λ e at. all_up_to entry.0 e.0 c.merge_group.new.self
          (keys_next (slice_range (concatenated c.args.more.now) c.args.from c.args.to) i entry e (rises_of _ _ _ c.requires.room) here at) left.up_to;
      added = λ q same. added_next q _ _ _ i (c.loop-place.invariant.added q same) _ entry here (rises_of _ _ _ c.requires.room)
          (left.added q same);
    }

pub returns : goal.returns
returns c =
    let counted = range_long (concatenated c.args.more.now) c.args.from c.args.to c.requires.order c.requires.within in
    let rest : slice_range c.args.self.now c.loop-place.left c.len-count.result ≡ drop c.loop-place.left c.args.self.now =
    ap (λ k. slice_range c.args.self.now c.loop-place.left k) c.len-count.ensures.length ∙ take_rest c.args.self.now c.loop-place.left in
    λ q same.
    subst (AddsRun q c.args.self.now (slice_range (concatenated c.args.more.now) c.args.from c.args.to))
    (sym (c.in_ok-push_range.ensures.pushed ∙ ap (λ es. c.loop-place.merged ++ es) rest))
    (added_all q _ _ _ c.loop-place.place (c.loop-place.invariant.added q same) (omega (arith, c.loop-place-test.false, counted)))
