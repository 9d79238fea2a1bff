use Rattle.std.proofs.Common.{sym, ap, ◌∙◌, subst, arith}
use Rattle.std.specs.Prelude.{◌==◌}
use Rattle.std.proofs.lemmas.Bool.{eqb-true}
use Rattle.group_table.proofs.Words.{kind_refusal, TreeState, is_there, IsNew, IsSameBySlot}
use Rattle.context_tree.specs.declared.kind.Kind.TheVariants as kind
use Rattle.group_table.proofs.ChildLaws.{there_made, there_still, taken_back, same_as_itself, refused_of, slab_allowed, last_is}
use Rattle.group_table.proofs.children.make_keys_and_states.Goals as goal

pub take_back-requires-clause-there : goal.take_back-requires-clause-there
take_back-requires-clause-there c =
    let made = c.in_ok-keys.ensures in
    let new : IsNew c.args.tree.now c.create.new.self c.args.parent kind.Bump c.in_ok-keys.keys =
    record { free = made.fresh; low = made.low; is = made.made } in
    ap (λ (t : TreeState). is_there t c.in_ok-keys.keys) c.in-Err.ensures.unchanged
    ∙ there_made c.args.tree.now c.is_whole.ensures c.create.new.self c.args.parent c.in_ok-keys.keys kind.Bump new

pub returns-in-Err-clause-refused : goal.returns-in-Err-clause-refused
returns-in-Err-clause-refused c =
    let made = c.in_ok-keys.ensures in
    let new : IsNew c.args.tree.now c.create.new.self c.args.parent kind.Bump c.in_ok-keys.keys =
    record { free = made.fresh; low = made.low; is = made.made } in
    refused_of c.args.tree.now 2 (is_there c.create.new.self c.args.parent) (c.create.new.self.last == 18446744073709551615)
    (kind_refusal (kind.Slab c.args.width)) c.in-Err.error
    (there_still c.args.tree.now c.is_whole.ensures c.create.new.self c.args.parent c.in_ok-keys.keys kind.Bump new c.args.parent
    c.requires.there)
    (slab_allowed c.args.width c.requires.width)
    (λ spent.
    let last = last_is c.args.tree.now c.is_whole.ensures c.create.new.self c.args.parent c.in_ok-keys.keys kind.Bump new in
    omega (arith, last, made.stamp, eqb-true c.create.new.self.last 18446744073709551615 spent))
    c.in-Err.ensures.refused

pub returns-in-Err-clause-same : goal.returns-in-Err-clause-same
returns-in-Err-clause-same c =
    let made = c.in_ok-keys.ensures in
    let new : IsNew c.args.tree.now c.create.new.self c.args.parent kind.Bump c.in_ok-keys.keys =
    record { free = made.fresh; low = made.low; is = made.made } in
    subst (λ (t : TreeState). IsSameBySlot c.args.tree.now t) (sym c.take_back.ensures)
    (taken_back c.args.tree.now c.is_whole.ensures c.create.new.self c.args.parent c.in_ok-keys.keys kind.Bump new c.create-2.new.self
    (subst (λ (t : TreeState). IsSameBySlot c.create.new.self t) (sym c.in-Err.ensures.unchanged) (same_as_itself c.create.new.self)))
