use Rattle.std.proofs.Common.{◌≡◌, length, refl, ap, ◌∙◌, arith}
use Rattle.context_tree.proofs.Words.{no_context, held_by, held_by_all, is_under}
use Rattle.context_tree.proofs.Bounds.{all-set}
use Rattle.context_tree.proofs.Clearing.{length-cleared, cut-too, low-there}
use Rattle.context_tree.proofs.tree.give_up_with.Goals as goal

pub overflow_add-result : goal.overflow_add-result
overflow_add-result c =
    let old = c.args.contexts.now in let ds = c.give_up_below-below.new.contexts in let slot = c.args.slot in
    let long : length ds ≡ length old = ap length c.give_up_below-below.ensures.contexts
    ∙ length-cleared (is_under c.args.links.now slot) no_context 0 old in
    let there = low-there c.args.links.now slot c.requires.there in
    let sum = all-set ds slot no_context (omega (arith, long, there, c.requires.long)) in
    let nothing : held_by no_context ≡ 0 = refl in
    omega (arith, sum, nothing, c.give_up.ensures.given, c.give_up_below-below.ensures.given, c.requires.bounded)

pub returns-clause-contexts : goal.returns-clause-contexts
returns-clause-contexts c =
    let old = c.args.contexts.now in let slot = c.args.slot in
    let there = low-there c.args.links.now slot c.requires.there in
    c.give_up.ensures.contexts
    ∙ cut-too c.args.links.now c.is_forest.ensures slot no_context old c.give_up_below-below.new.contexts
    c.give_up_below-below.ensures.contexts (omega (arith, there, c.requires.long))

pub returns-clause-given : goal.returns-clause-given
returns-clause-given c =
    let old = c.args.contexts.now in let ds = c.give_up_below-below.new.contexts in let slot = c.args.slot in
    let long : length ds ≡ length old = ap length c.give_up_below-below.ensures.contexts
    ∙ length-cleared (is_under c.args.links.now slot) no_context 0 old in
    let there = low-there c.args.links.now slot c.requires.there in
    let sum = all-set ds slot no_context (omega (arith, long, there, c.requires.long)) in
    let after = ap held_by_all c.give_up.ensures.contexts in
    let nothing : held_by no_context ≡ 0 = refl in
    omega (arith, sum, after, nothing, c.give_up.ensures.given, c.give_up_below-below.ensures.given)
