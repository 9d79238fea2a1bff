use Rattle.std.specs.Prelude.{◌≡◌, length, ◌+◌, slice_range}
use Rattle.std.proofs.Common.{sym, ◌∙◌, ap, arith}
use Rattle.group_runs.specs.Runs.{all_cut, keys_concatenated, states_concatenated}
use Rattle.group_runs.proofs.FlatLaws.{cut_long, group_is}
use Rattle.group_runs.proofs.segment.Segment.group.Goals as goal

pub overflow_add-place : goal.overflow_add-place
overflow_add-place c =
    let low = c.requires in
    let long : length c.args.self.now ≡ length c.self.inside.ends.items = ap length (sym c.self.view_is)
    ∙ cut_long c.self.inside.keys.items c.self.inside.states.items (0, 0) c.self.inside.ends.items in
    let counted = c.self.inside.ends.ok in
    let few = c.self.inside.ends.small in
    omega (arith, low, long, counted, few)

pub parts-requires-clause-within : goal.parts-requires-clause-within
parts-requires-clause-within c =
    let low = c.requires in
    let long : length c.args.self.now ≡ length c.self.inside.ends.items = ap length (sym c.self.view_is)
    ∙ cut_long c.self.inside.keys.items c.self.inside.states.items (0, 0) c.self.inside.ends.items in
    let same = ap length c.deref-3.ensures.value in
    omega (arith, low, long, same)

pub returns : goal.returns
returns c =
    let whole = (λ i. all_cut (c.deref.ensures.value i) (c.deref-2.ensures.value i) (c.deref-3.ensures.value i)) ∙ c.self.view_is in
    group_is c.args.self.now c.args.place c.parts.result.0.now c.parts.result.1.now c.requires
    (c.parts.ensures.keys ∙ ap (λ run. keys_concatenated (slice_range run c.args.place (c.args.place + 1))) whole)
    (c.parts.ensures.states ∙ ap (λ run. states_concatenated (slice_range run c.args.place (c.args.place + 1))) whole)
