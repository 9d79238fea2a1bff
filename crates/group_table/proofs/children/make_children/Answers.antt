use Rattle.std.proofs.Common.{Option, sym, ap, ◌∙◌, subst}
use Rattle.group_table.proofs.Words.{has_stamp, Link, IsNew, IsAsBefore}
use Rattle.context_tree.specs.declared.kind.Kind.TheVariants as kind
use Rattle.group_table.proofs.ChildLaws.{there_made, there_still, taken_back, as_before, all_made, last_is}
use Rattle.group_table.proofs.children.make_children.Goals as goal

pub make_keys_and_states-requires-clause-there : goal.make_keys_and_states-requires-clause-there
make_keys_and_states-requires-clause-there c =
    let made = c.in_ok-buckets.ensures in
    let new : IsNew c.args.tree.now c.create.new.self c.args.parent kind.AllocSet c.in_ok-buckets.buckets =
    record { free = made.fresh; low = made.low; is = made.made } in
    there_still c.args.tree.now c.is_whole.ensures c.create.new.self c.args.parent c.in_ok-buckets.buckets kind.AllocSet new c.args.parent
    c.requires.there

pub take_back-requires-clause-there : goal.take_back-requires-clause-there
take_back-requires-clause-there c =
    let made = c.in_ok-buckets.ensures in let buckets = c.in_ok-buckets.buckets in
    let new : IsNew c.args.tree.now c.create.new.self c.args.parent kind.AllocSet buckets =
    record { free = made.fresh; low = made.low; is = made.made } in
    ap (λ (l : Option Link). has_stamp l buckets.stamp) (c.in-Err.ensures.same.links buckets.slot)
    ∙ there_made c.args.tree.now c.is_whole.ensures c.create.new.self c.args.parent buckets kind.AllocSet new

pub returns-in-Ok-clause-made : goal.returns-in-Ok-clause-made
returns-in-Ok-clause-made c =
    let made = c.in_ok-buckets.ensures in let buckets = c.in_ok-buckets.buckets in
    let new : IsNew c.args.tree.now c.create.new.self c.args.parent kind.AllocSet buckets =
    record { free = made.fresh; low = made.low; is = made.made } in
    all_made c.args.tree.now c.create.new.self c.make_keys_and_states.new.tree c.args.parent c.args.width
    (record { buckets = buckets; keys = c.in-Ok.keys; states = c.in-Ok.states })
    c.is_whole.ensures new c.is_whole-2.ensures c.requires.there
    (last_is c.args.tree.now c.is_whole.ensures c.create.new.self c.args.parent buckets kind.AllocSet new ∙ made.stamp) c.in-Ok.ensures.made

pub returns-in-Err-clause-as_before : goal.returns-in-Err-clause-as_before
returns-in-Err-clause-as_before c =
    let made = c.in_ok-buckets.ensures in let buckets = c.in_ok-buckets.buckets in
    let new : IsNew c.args.tree.now c.create.new.self c.args.parent kind.AllocSet buckets =
    record { free = made.fresh; low = made.low; is = made.made } in
    subst (IsAsBefore c.args.tree.now) (sym c.take_back.ensures)
    (as_before c.args.tree.now _
    (taken_back c.args.tree.now c.is_whole.ensures c.create.new.self c.args.parent buckets kind.AllocSet new c.make_keys_and_states.new.tree
    c.in-Err.ensures.same))
