use Rattle.std.specs.Prelude.{◌≡◌, ◌<◌, ◌+◌, ℕ, List, ◌∷◌, ◌++◌, length, slice_index_or}
use Rattle.std.proofs.Common.{sym, ◌∙◌, ap, subst, arith}
use Rattle.std.proofs.lemmas.List.{length-append}
use Rattle.group_runs.proofs.Words.{functions_of, Entry, LieAs, Rises, HaveRoomForMore, CombineWith}
use Rattle.group_runs.proofs.FlatLaws.{MiddleAt, ends_long, middle_at, middle_is, middle_high, written_at, cut_is, are_run, same_keys_rise}
use Rattle.group_runs.proofs.segment.Segment.combine_at.Goals.{After-bound-to}
use Rattle.group_runs.proofs.segment.Segment.combine_at.Goals as goal

-- a group is before the last end
many : (keys states : List ℕ) (ends : List (ℕ × ℕ)) (run front back : List Entry) (entry : Entry) → LieAs keys states ends run → run ≡ front
    ++ entry ∷ back → length front < length ends
many keys states ends run front back entry lie is = let long = ap length lie.ends_are ∙ ends_long (0, 0) run ∙ ap length is
    ∙ length-append front (entry ∷ back) in omega (arith, long)

-- the groups lie so, and where the states of one stand
lie : (c : After-bound-to) (run : List Entry) → c.args.self.now ≡ run
    → LieAs c.self.inside.keys.items c.self.inside.states.items c.self.inside.ends.items run
lie c run is = subst (LieAs c.self.inside.keys.items c.self.inside.states.items c.self.inside.ends.items) (c.self.view_is
    ∙ is) c.self.invariant.lie

middle : (c : After-bound-to) (front back : List Entry) (entry : Entry) → c.args.self.now ≡ front ++ entry ∷ back → length front
    ≡ c.args.place → MiddleAt c.self.inside.states.items c.bound-from.result.1 c.bound-to.result.1 front entry back
middle c front back entry is long =
    middle_at c.self.inside.keys.items c.self.inside.states.items c.self.inside.ends.items front entry back c.args.place c.bound-from.result
    c.bound-to.result (lie c (front ++ entry ∷ back) is) long
    (c.bound-from.ensures ∙ ap (λ ends. slice_index_or ((0, 0) ∷ ends) c.args.place (0, 0)) c.deref.ensures.value)
    (c.bound-to.ensures ∙ ap (λ ends. slice_index_or ((0, 0) ∷ ends) (c.args.place + 1) (0, 0)) c.deref-2.ensures.value)

pub bound-from-requires : goal.bound-from-requires
bound-from-requires c =
    let r = c.requires in let old = c.self.inside in
    omega (
      arith,
      many old.keys.items old.states.items old.ends.items _ r.front r.back r.entry c.self.invariant.lie (c.self.view_is
          ∙ r.is),
      r.long,
      ap length c.deref.ensures.value,
    )

pub overflow_add-place : goal.overflow_add-place
overflow_add-place c =
    let r = c.requires in let old = c.self.inside in
    let counted = old.ends.ok in let few = old.ends.small in
    omega (
      arith,
      many old.keys.items old.states.items old.ends.items _ r.front r.back r.entry c.self.invariant.lie (c.self.view_is
          ∙ r.is),
      r.long,
      counted,
      few,
    )

pub bound-to-requires : goal.bound-to-requires
bound-to-requires c =
    let r = c.requires in let old = c.self.inside in
    omega (
      arith,
      many old.keys.items old.states.items old.ends.items _ r.front r.back r.entry c.self.invariant.lie (c.self.view_is
          ∙ r.is),
      r.long,
      ap length c.deref-2.ensures.value,
    )

pub combine_part-requires-clause-order : goal.combine_part-requires-clause-order
combine_part-requires-clause-order c =
    let r = c.requires in
    let m = middle (goal.at.combine_part-requires-clause-order c).After-bound-to r.front r.back r.entry r.is r.long in
    omega (arith, m.from, m.to)

pub combine_part-requires-clause-within : goal.combine_part-requires-clause-within
combine_part-requires-clause-within c =
    let r = c.requires in
    middle_high c.self.inside.states.items c.bound-from.result.1 c.bound-to.result.1 r.front r.entry r.back
    (middle (goal.at.combine_part-requires-clause-within c).After-bound-to r.front r.back r.entry r.is r.long)

pub combine_part-requires-clause-room : goal.combine_part-requires-clause-room
combine_part-requires-clause-room c =
    let r = c.requires in
    let m = middle (goal.at.combine_part-requires-clause-room c).After-bound-to r.front r.back r.entry r.is r.long in
    subst (λ states. HaveRoomForMore (functions_of c.args.kinds.now) states c.args.more.now)
    (sym (middle_is c.self.inside.states.items c.bound-from.result.1 c.bound-to.result.1 r.front r.entry r.back m)) r.room

pub invariant_of-self : goal.invariant_of-self
invariant_of-self c =
    let old = c.self.inside in let r = c.requires in let given = c.combine_part.ensures in
    let at = (goal.at.invariant_of-self c).After-bound-to in
    are_run old.keys.items c.combine_part.new.states.items old.ends.items (r.front ++ (r.entry.0, given.0) ∷ r.back)
    (written_at old.keys.items old.states.items old.ends.items r.front r.entry r.back c.bound-from.result.1 c.bound-to.result.1 given.0
    c.combine_part.new.states.items (lie at (r.front ++ r.entry ∷ r.back) r.is) (middle at r.front r.back r.entry r.is r.long) given.2
    given.1)
    (same_keys_rise r.front r.entry.0 r.entry.1 given.0 r.back (subst Rises (c.self.view_is ∙ r.is) c.self.invariant.rises))

pub returns : goal.returns
returns c =
    λ front entry back is long.
    let old = c.self.inside in let given = c.combine_part.ensures in
    let at = (goal.at.returns c).After-bound-to in
    let m = middle at front back entry is long in (
      given.0,
      cut_is old.keys.items c.combine_part.new.states.items old.ends.items (front ++ (entry.0, given.0) ∷ back)
          (written_at old.keys.items old.states.items old.ends.items front entry back c.bound-from.result.1 c.bound-to.result.1 given.0
          c.combine_part.new.states.items (lie at (front ++ entry ∷ back) is) m given.2 given.1),
      subst (λ states. CombineWith (functions_of c.args.kinds.now) states c.args.more.now given.0)
          (middle_is old.states.items c.bound-from.result.1 c.bound-to.result.1 front entry back m) given.3,
    )
