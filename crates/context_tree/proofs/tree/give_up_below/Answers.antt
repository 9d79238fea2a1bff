use Rattle.std.proofs.Common.{◌≡◌, ◌<◌, ℕ, List, length, set, refl, sym, ap, ◌∙◌, arith}
use Rattle.std.proofs.lemmas.Bool.{MatchBool-at_true, MatchBool-at_false}
use Rattle.context_tree.specs.Preorders.{stamp_in}
use Rattle.context_tree.proofs.Words.{no_context, held_by, held_by_all, is_under, Context}
use Rattle.context_tree.proofs.Bounds.{all-set}
use Rattle.context_tree.proofs.Walks.{wiped, wiped-more, wiped-cleared, length-wiped, walk-begun, walk-more, walk-past, nearer, at-low}
use Rattle.context_tree.proofs.Walks.{done-under}
use Rattle.context_tree.proofs.tree.give_up_below.Goals as goal

pub loop-alloc-init : goal.loop-alloc-init
loop-alloc-init c =
    let begun = walk-begun c.args.links.now c.args.ring.now.slots c.requires.ordered c.args.above c.requires.there c.after-at.result
    c.after-at.ensures in
    record { walk = (begun.0, ap (λ (xs : List ℕ). wiped no_context xs c.args.contexts.now) (sym begun.1)); given = omega arith }

pub give_up-given-requires : goal.give_up-given-requires
give_up-given-requires c =
    let ls = c.args.links.now in let walk = c.loop-alloc.invariant.walk in
    let is = MatchBool-at_true _ _ c.loop-alloc-test.true c.is_later.ensures in
    let low = at-low ls c.args.ring.now.slots c.requires.ordered c.args.above c.loop-alloc.at walk.0 is.0 in
    omega (arith, low, ap length walk.1, length-wiped no_context walk.0.done c.args.contexts.now, c.requires.long)

pub overflow_add-given : goal.overflow_add-given
overflow_add-given c =
    let cs = c.loop-alloc.contexts in let at = c.loop-alloc.at in
    let ls = c.args.links.now in let walk = c.loop-alloc.invariant.walk in
    let is = MatchBool-at_true _ _ c.loop-alloc-test.true c.is_later.ensures in
    let low = at-low ls c.args.ring.now.slots c.requires.ordered c.args.above at walk.0 is.0 in
    let there : at < length cs = omega (
      arith,
      low,
      ap length walk.1,
      length-wiped no_context walk.0.done c.args.contexts.now,
      c.requires.long,
    ) in
    let nothing : held_by no_context ≡ 0 = refl in
    omega (
      arith,
      all-set cs at no_context there,
      c.give_up-given.ensures.given,
      c.loop-alloc.invariant.given,
      c.requires.bounded,
      nothing,
    )

pub loop-alloc-preserved : goal.loop-alloc-preserved
loop-alloc-preserved c =
    let ls = c.args.links.now in let slots = c.args.ring.now.slots in let above = c.args.above in let at = c.loop-alloc.at in
    let i = c.loop-alloc.invariant in let w = i.walk.0 in let cs = c.loop-alloc.contexts in
    let is = MatchBool-at_true _ _ c.loop-alloc-test.true c.is_later.ensures in
    let less : stamp_in ls above < stamp_in ls at = omega (arith, is.1, c.stamp-oldest.ensures) in
    let there : at < length cs = omega (
      arith,
      at-low ls slots c.requires.ordered above at w is.0,
      ap length i.walk.1,
      length-wiped no_context w.done c.args.contexts.now,
      c.requires.long,
    ) in
    let nothing : held_by no_context ≡ 0 = refl in
    record {
      walk = (
        walk-more ls slots c.requires.ordered above at w is.0 less c.after-next.result c.after-next.ensures,
        c.give_up-given.ensures.contexts ∙ ap (λ (l : List Context). set l at no_context) i.walk.1
            ∙ sym (wiped-more no_context w.done at c.args.contexts.now),
      );
      given = omega (
        arith,
        all-set cs at no_context there,
        ap held_by_all c.give_up-given.ensures.contexts,
        c.give_up-given.ensures.given,
        i.given,
        nothing,
      );
    }

pub loop-alloc-smaller : goal.loop-alloc-smaller
loop-alloc-smaller c =
    let is = MatchBool-at_true _ _ c.loop-alloc-test.true c.is_later.ensures in
    nearer c.args.links.now c.args.ring.now.slots c.requires.ordered c.args.above c.loop-alloc.at c.loop-alloc.invariant.walk.0 is.0
    c.after-next.result c.after-next.ensures

pub returns-clause-contexts : goal.returns-clause-contexts
returns-clause-contexts c =
    let ls = c.args.links.now in let slots = c.args.ring.now.slots in let above = c.args.above in let at = c.loop-alloc.at in
    let i = c.loop-alloc.invariant in let w = i.walk.0 in
    let last = MatchBool-at_false _ _ c.loop-alloc-test.false c.is_later.ensures in
    let ends = walk-past ls slots c.requires.ordered above at w c.is_ring.ensures.root
    (λ some. let less = last some in omega (arith, less, c.stamp-oldest.ensures)) in
    i.walk.1
    ∙ wiped-cleared no_context (is_under ls above) w.done c.args.contexts.now
    (done-under ls slots c.requires.ordered above c.is_forest.ensures at w ends)
