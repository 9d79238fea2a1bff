use Rattle.std.specs.Prelude.{◌≡◌, ◌+◌, ◌∷◌, ◌++◌, [], List, drop, slice_range}
use Rattle.std.proofs.Common.{sym, ◌∙◌, ap, subst, arith}
use Rattle.group_runs.proofs.MergedLaws.{Merged, long_there, merged_there, pushed_rises, merged_new}
use Rattle.group_runs.proofs.Words.{Query, Entry, Rises, CombineWith, HasRoomForGroup, HaveRoomForMore, functions, functions_of}
use Rattle.grouping_model.specs.MemberLaws.{false_is_not_true}
use Rattle.group_runs.proofs.RunLaws.{run_front_rises}
use Rattle.group_runs.specs.Lemmas.PlaceLaws.{Moves, Passes}
use Rattle.group_runs.proofs.PlaceLaws.{moves, passes, some_moved}
use Rattle.group_runs.proofs.SpliceLaws.{present_room}
use Rattle.group_runs.proofs.segment.Segment.merge_group.Goals.{Then-has_at, Else-has_at}
use Rattle.group_runs.proofs.segment.Segment.merge_group.Goals as goal

-- a group of the key is there
at_key : (c : Then-has_at) → Moves c.args.self.now c.args.old.now c.args.from c.seek-place.result c.args.key.now
at_key c = moves _ _ _ _ _ c.requires.below c.seek-place.ensures.place (c.has_at.ensures.0 c.if-has_at.true)

-- there is none
past_key : (c : Else-has_at) → Passes c.args.self.now c.args.old.now c.args.from c.seek-place.result c.args.key.now
past_key c = passes _ _ _ _ _ c.seek-place.ensures.rises c.requires.below c.seek-place.ensures.place
    (λ has. false_is_not_true (sym c.if-has_at.false ∙ c.has_at.ensures.1 has))

pub overflow_add-place : goal.overflow_add-place
overflow_add-place c =
    let here = at_key (goal.at.overflow_add-place c).Then-has_at in
    omega (arith, here.low, c.seek-place.ensures.few)

pub push_range-requires-clause-within : goal.push_range-requires-clause-within
push_range-requires-clause-within c =
    let here = at_key (goal.at.push_range-requires-clause-within c).Then-has_at in
    omega (arith, here.low)

pub push_range-requires-clause-rises : goal.push_range-requires-clause-rises
push_range-requires-clause-rises c =
    let done : List Entry = c.args.self.now in
    let old : List Entry = c.args.old.now in
    let place = c.seek-place.result in
    let behind = c.seek-place.ensures.place.behind in
    run_front_rises (done ++ slice_range old c.args.from (place + 1)) (drop (place + 1) old)
    (subst Rises (some_moved done old c.args.from (place + 1) (omega (arith, behind))) c.requires.rises)

pub overflow_sub-len : goal.overflow_sub-len
overflow_sub-len c =
    let here = at_key (goal.at.overflow_sub-len c).Then-has_at in
    let long = long_there c.args.self.now c.args.old.now c.args.from c.seek-place.result c.args.key.now c.push_range.new.self c.len.result
    here c.in_ok-push_range.ensures.pushed c.len.ensures.length in
    omega (arith, long)

pub combine_at-requires : goal.combine_at-requires
combine_at-requires c =
    let (q, same, has) = c.requires.room in
    let old : List Entry = c.args.old.now in
    let place = c.seek-place.result in
    let here = at_key (goal.at.combine_at-requires c).Then-has_at in
    let front : List Entry = c.args.self.now ++ slice_range old c.args.from place in
    let long = long_there c.args.self.now old c.args.from place c.args.key.now c.push_range.new.self c.len.result here
    c.in_ok-push_range.ensures.pushed c.len.ensures.length in
    record {
      front = front;
      entry = (c.args.key.now, here.states);
      back = [];
      is = c.in_ok-push_range.ensures.pushed ∙ here.front;
      long = omega (arith, long);
      room = subst (λ these. HaveRoomForMore these here.states c.args.states.now) same
          (present_room q c.args.key.now here.states c.args.states.now front (drop (place + 1) old) here.below
          (subst (λ run. HasRoomForGroup q run (c.args.key.now, c.args.states.now)) here.whole has));
    }

pub overflow_add-result : goal.overflow_add-result
overflow_add-result c =
    let here = at_key (goal.at.overflow_add-result c).Then-has_at in
    omega (arith, here.low, c.seek-place.ensures.few)

pub returns-then-has_at-clause-within : goal.returns-then-has_at-clause-within
returns-then-has_at-clause-within c =
    let here = at_key (goal.at.returns-then-has_at-clause-within c).Then-has_at in
    omega (arith, here.low)

-- a group of the key was there
there : (c : goal.After-combine_at) (q : Query) → functions q ≡ functions_of c.args.kinds.now → Merged q (c.args.self.now ++ drop c.args.from c.args.old.now) c.args.key.now
    c.args.states.now c.combine_at.new.self (drop (c.seek-place.result + 1) c.args.old.now)
there c q same =
    let done : List Entry = c.args.self.now in
    let old : List Entry = c.args.old.now in
    let place = c.seek-place.result in
    let here = at_key (goal.at.returns-then-has_at-clause-rises c).Then-has_at in
    let long = long_there done old c.args.from place c.args.key.now c.push_range.new.self c.len.result here
    c.in_ok-push_range.ensures.pushed c.len.ensures.length in
    let given = c.combine_at.ensures (done ++ slice_range old c.args.from place) (c.args.key.now, here.states) []
    (c.in_ok-push_range.ensures.pushed ∙ here.front) (omega (arith, long)) in
    merged_there q done old c.args.from place c.args.key.now c.args.states.now given.0 c.combine_at.new.self here
    c.requires.rises given.1 (subst (λ these. CombineWith these here.states c.args.states.now given.0) (sym same) given.2)

pub returns-then-has_at-clause-rises : goal.returns-then-has_at-clause-rises
returns-then-has_at-clause-rises c = let (q, same, has) = c.requires.room in (there c q same).rises

pub returns-then-has_at-clause-up_to : goal.returns-then-has_at-clause-up_to
returns-then-has_at-clause-up_to c = let (q, same, has) = c.requires.room in (there c q same).up_to

pub returns-then-has_at-clause-added : goal.returns-then-has_at-clause-added
returns-then-has_at-clause-added c = λ q same. (there c q same).added

pub push_range-requires-2-clause-rises : goal.push_range-requires-2-clause-rises
push_range-requires-2-clause-rises c =
    let done : List Entry = c.args.self.now in
    let old : List Entry = c.args.old.now in
    let place = c.seek-place.result in
    run_front_rises (done ++ slice_range old c.args.from place) (drop place old)
    (subst Rises (some_moved done old c.args.from place c.seek-place.ensures.place.behind) c.requires.rises)

pub push-requires : goal.push-requires
push-requires c = pushed_rises _ _ _ _ _ _ _ (past_key (goal.at.push-requires c).Else-has_at) c.requires.rises
    c.in_ok-push_range-2.ensures.pushed

-- there was none
new : (c : goal.In_ok-push) (q : Query) → Merged q (c.args.self.now ++ drop c.args.from c.args.old.now) c.args.key.now
    c.args.states.now c.push.new.self (drop c.seek-place.result c.args.old.now)
new c q =
    merged_new q c.args.self.now c.args.old.now c.args.from c.seek-place.result c.args.key.now c.args.states.now
    c.push.new.self (past_key (goal.at.returns-clause-rises c).Else-has_at) c.requires.rises
    (c.in_ok-push.ensures.pushed ∙ ap (λ run. run ++ (c.args.key.now, c.args.states.now) ∷ []) c.in_ok-push_range-2.ensures.pushed)

pub returns-clause-rises : goal.returns-clause-rises
returns-clause-rises c = let (q, same, has) = c.requires.room in (new c q).rises

pub returns-clause-up_to : goal.returns-clause-up_to
returns-clause-up_to c = let (q, same, has) = c.requires.room in (new c q).up_to

pub returns-clause-added : goal.returns-clause-added
returns-clause-added c = λ q same. (new c q).added
