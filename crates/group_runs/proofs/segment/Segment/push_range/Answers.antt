use Rattle.std.specs.Prelude.{◌≡◌, ◌++◌, ℕ, List, length, map, slice_range, slice_index_or, ◌∷◌}
use Rattle.std.proofs.Common.{sym, ◌∙◌, ap, subst, arith, rules}
use Rattle.std.specs.List.{AllByRecursion}
use Rattle.group_runs.specs.Runs.{Entry, LieAs, cut, all_cut, moved, keys_concatenated, states_concatenated, IsEndFrom}
use Rattle.group_runs.proofs.FlatLaws.{cut_long, cut_is, are_run, range_fits, pushed_range}
use Rattle.group_runs.proofs.segment.Segment.push_range.Goals as goal

-- there are as many groups as ends
counted : (keys states : List ℕ) (ends : List (ℕ × ℕ)) (run : List Entry) → cut keys states (0, 0) ends ≡ run → length run ≡ length ends
counted keys states ends run is = ap length (sym is) ∙ cut_long keys states (0, 0) ends

pub bound-start-requires : goal.bound-start-requires
bound-start-requires c =
    let other = c.other.inside in
    omega (
      arith,
      c.requires.order,
      c.requires.within,
      counted other.keys.items other.states.items other.ends.items _ c.other.view_is,
      ap
          length c.deref.ensures.value,
    )

pub parts-requires-clause-within : goal.parts-requires-clause-within
parts-requires-clause-within c = let other = c.other.inside in omega (
  arith,
  c.requires.within,
  counted other.keys.items other.states.items
      other.ends.items _ c.other.view_is,
  ap length c.deref-4.ensures.value,
)

pub part-requires-clause-within : goal.part-requires-clause-within
part-requires-clause-within c = let other = c.other.inside in omega (
  arith,
  c.requires.within,
  counted other.keys.items other.states.items
      other.ends.items _ c.other.view_is,
  ap length c.deref-5.ensures.value,
)

pub push_ends-requires-clause-within : goal.push_ends-requires-clause-within
push_ends-requires-clause-within c =
    let other = c.other.inside in
    let start : c.bound-start.result ≡ slice_index_or ((0, 0) ∷ other.ends.items) c.args.from (0, 0) = c.bound-start.ensures
    ∙ ap (λ ends. slice_index_or ((0, 0) ∷ ends) c.args.from (0, 0)) c.deref.ensures.value in
    let key_counted = other.keys.ok in
    let key_few = other.keys.small in
    let state_counted = other.states.ok in
    let state_few = other.states.small in
    subst (AllByRecursion (IsEndFrom c.bound-start.result))
    (sym (c.part.ensures ∙ ap (λ ends. slice_range ends c.args.from c.args.to) c.deref-5.ensures.value))
    (range_fits other.keys.items other.states.items other.ends.items c.args.other.now c.args.from c.args.to c.bound-start.result
    (subst (LieAs other.keys.items other.states.items other.ends.items) c.other.view_is c.other.invariant.lie) c.requires.order
    c.requires.within start (omega (arith, key_counted, key_few)) (omega (arith, state_counted, state_few)))

-- the groups with those of the other
lie : (c : goal.In_ok-extend_from_slice-2) → LieAs c.extend_from_slice.new.self.items c.extend_from_slice-2.new.self.items
    c.push_ends.new.ends.items (c.args.self.now ++ slice_range c.args.other.now c.args.from c.args.to)
lie c =
    let order = c.requires.order in
    let within = c.requires.within in
    let other = c.other.inside in
    let viewed = ap length c.other.view_is in
    let start : c.bound-start.result ≡ slice_index_or ((0, 0) ∷ other.ends.items) c.args.from (0, 0) = c.bound-start.ensures
    ∙ ap (λ ends. slice_index_or ((0, 0) ∷ ends) c.args.from (0, 0)) c.deref.ensures.value in
    let old = c.self.inside in
    let own : LieAs old.keys.items old.states.items old.ends.items c.args.self.now =
    subst (LieAs old.keys.items old.states.items old.ends.items) c.self.view_is c.self.invariant.lie in
    let lies : LieAs other.keys.items other.states.items other.ends.items c.args.other.now =
    subst (LieAs other.keys.items other.states.items other.ends.items) c.other.view_is c.other.invariant.lie in
    let whole = (λ i. all_cut (c.deref-2.ensures.value i) (c.deref-3.ensures.value i) (c.deref-4.ensures.value i)) ∙ c.other.view_is in
    pushed_range old.keys.items old.states.items old.ends.items c.args.self.now other.keys.items other.states.items other.ends.items
    c.args.other.now c.args.from c.args.to c.bound-start.result (c.len.result, c.len-2.result) c.parts.result.0.now c.parts.result.1.now
    c.extend_from_slice.new.self.items c.extend_from_slice-2.new.self.items c.push_ends.new.ends.items
    own lies order within start (search rules) (search rules)
    (c.parts.ensures.keys ∙ ap (λ run. keys_concatenated (slice_range run c.args.from c.args.to)) whole)
    (c.parts.ensures.states ∙ ap (λ run. states_concatenated (slice_range run c.args.from c.args.to)) whole)
    (search rules) (search rules)
    (c.in_ok-push_ends.ensures.pushed ∙ ap (λ ends. old.ends.items ++ map (moved c.bound-start.result (c.len.result, c.len-2.result)) ends)
    (c.part.ensures ∙ ap (λ ends. slice_range ends c.args.from c.args.to) c.deref-5.ensures.value))

pub invariant_of-self-2 : goal.invariant_of-self-2
invariant_of-self-2 c = are_run c.extend_from_slice.new.self.items c.extend_from_slice-2.new.self.items c.push_ends.new.ends.items
    (c.args.self.now ++ slice_range c.args.other.now c.args.from c.args.to) (lie c) c.requires.rises

pub returns-clause-pushed : goal.returns-clause-pushed
returns-clause-pushed c = cut_is c.extend_from_slice.new.self.items c.extend_from_slice-2.new.self.items c.push_ends.new.ends.items
    (c.args.self.now ++ slice_range c.args.other.now c.args.from c.args.to) (lie c)
