use Rattle.std.proofs.Common.{◌≡◌, ◌<◌, ◌∷◌, ℕ, List, length, refl, ap, arith}
use Rattle.std.proofs.lemmas.Bool.{MatchBool-at_true, MatchBool-at_false}
use Rattle.context_tree.specs.Preorders.{stamp_in}
use Rattle.context_tree.proofs.Words.{no_context, held_by, held_by_all, is_below}
use Rattle.context_tree.proofs.Bounds.{all-set, all-given}
use Rattle.context_tree.proofs.Clearing.{low-there}
use Rattle.context_tree.proofs.Walks.{wiped, wiped-more, wiped-other, wiped-cleared, length-wiped, walk-begun, walk-more, walk-past}
use Rattle.context_tree.proofs.Walks.{nearer, at-low, at-fresh, done-below}
use Rattle.context_tree.proofs.tree.sum_below.Goals as goal

pub held_in-own-requires : goal.held_in-own-requires
held_in-own-requires c = omega (arith, low-there c.args.links.now c.args.above c.requires.there, c.requires.long)

pub loop-next-init : goal.loop-next-init
loop-next-init c =
    let cs = c.args.contexts.now in let above = c.args.above in
    let begun = walk-begun c.args.links.now c.args.ring.now.slots c.requires.ordered above c.requires.there c.after-at.result
    c.after-at.ensures in
    let low : above < length cs = omega (arith, low-there c.args.links.now above c.requires.there, c.requires.long) in
    let nothing : held_by no_context ≡ 0 = refl in
    let wipes = ap (λ (xs : List ℕ). held_by_all (wiped no_context (above ∷ xs) cs)) begun.1 in
    (begun.0, omega (arith, wipes, all-set cs above no_context low, c.held_in-own.ensures, nothing))

pub held_in-more-requires : goal.held_in-more-requires
held_in-more-requires c =
    let is = MatchBool-at_true _ _ c.loop-next-test.true c.is_later.ensures in
    let low = at-low c.args.links.now c.args.ring.now.slots c.requires.ordered c.args.above c.loop-next.at c.loop-next.invariant.0 is.0 in
    omega (arith, low, c.requires.long)

pub overflow_add-sum : goal.overflow_add-sum
overflow_add-sum c =
    let cs = c.args.contexts.now in let above = c.args.above in let at = c.loop-next.at in
    let i = c.loop-next.invariant in let w = i.0 in
    let is = MatchBool-at_true _ _ c.loop-next-test.true c.is_later.ensures in
    let ls = c.args.links.now in let slots = c.args.ring.now.slots in
    let done = wiped no_context (above ∷ w.done) cs in
    let low : at < length done = omega (
      arith,
      at-low ls slots c.requires.ordered above at w is.0,
      length-wiped no_context (above ∷ w.done) cs,
      c.requires.long,
    ) in
    let same = ap held_by (wiped-other no_context (above ∷ w.done) cs at (at-fresh ls slots c.requires.ordered above at w is.0)) in
    let nothing : held_by no_context ≡ 0 = refl in
    omega (arith, all-set done at no_context low, same, nothing, c.held_in-more.ensures, i.1, c.requires.bounded)

pub loop-next-preserved : goal.loop-next-preserved
loop-next-preserved c =
    let cs = c.args.contexts.now in let above = c.args.above in let at = c.loop-next.at in
    let i = c.loop-next.invariant in let w = i.0 in
    let is = MatchBool-at_true _ _ c.loop-next-test.true c.is_later.ensures in
    let ls = c.args.links.now in let slots = c.args.ring.now.slots in
    let less : stamp_in ls above < stamp_in ls at = omega (arith, is.1, c.stamp-oldest.ensures) in
    let done = wiped no_context (above ∷ w.done) cs in
    let low : at < length done = omega (
      arith,
      at-low ls slots c.requires.ordered above at w is.0,
      length-wiped no_context (above ∷ w.done) cs,
      c.requires.long,
    ) in
    let same = ap held_by (wiped-other no_context (above ∷ w.done) cs at (at-fresh ls slots c.requires.ordered above at w is.0)) in
    let nothing : held_by no_context ≡ 0 = refl in
    let wipes = ap held_by_all (wiped-more no_context (above ∷ w.done) at cs) in (
      walk-more ls slots c.requires.ordered above at w is.0 less c.after-next.result c.after-next.ensures,
      omega (arith, all-set done at no_context low, same, nothing, c.held_in-more.ensures, i.1, wipes),
    )

pub loop-next-smaller : goal.loop-next-smaller
loop-next-smaller c =
    let is = MatchBool-at_true _ _ c.loop-next-test.true c.is_later.ensures in
    nearer c.args.links.now c.args.ring.now.slots c.requires.ordered c.args.above c.loop-next.at c.loop-next.invariant.0 is.0
    c.after-next.result c.after-next.ensures

pub returns : goal.returns
returns c =
    let cs = c.args.contexts.now in let above = c.args.above in let at = c.loop-next.at in
    let i = c.loop-next.invariant in let w = i.0 in
    let ls = c.args.links.now in let slots = c.args.ring.now.slots in
    let last = MatchBool-at_false _ _ c.loop-next-test.false c.is_later.ensures in
    let ends = walk-past ls slots c.requires.ordered above at w c.is_ring.ensures.root
    (λ some. let less = last some in omega (arith, less, c.stamp-oldest.ensures)) in
    let clears = ap held_by_all (wiped-cleared no_context (is_below ls above) (above ∷ w.done) cs
    (done-below ls slots c.requires.ordered above c.is_forest.ensures at w ends)) in
    omega (arith, i.1, clears, all-given ls above 0 cs)
