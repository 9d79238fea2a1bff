use Rattle.std.proofs.Common.{◌<◌, ℕ, List, Option, None, length, set, sym, ap, ◌∙◌, subst, arith}
use Rattle.std.proofs.lemmas.Bool.{MatchBool-at_true, MatchBool-at_false}
use Rattle.context_tree.specs.Preorders.{stamp_in}
use Rattle.context_tree.proofs.Words.{is_under, AreFree, Link}
use Rattle.context_tree.proofs.Clearing.{free-emptied}
use Rattle.context_tree.proofs.Walks.{wiped, wiped-more, wiped-cleared, length-wiped, walk-begun, walk-more, walk-past, nearer, at-still}
use Rattle.context_tree.proofs.Walks.{at-low, done-under}
use Rattle.context_tree.proofs.links.prune.Goals as goal

pub loop-next-init : goal.loop-next-init
loop-next-init c =
    let ls = c.args.links.now in
    let begun = walk-begun ls c.args.ring.now.slots c.requires.ordered c.args.above c.requires.there c.after-at.result c.after-at.ensures in
    record { walk = (begun.0, ap (λ (xs : List ℕ). wiped None xs ls) (sym begun.1)); free = c.requires.free }

pub empty-requires-clause-there : goal.empty-requires-clause-there
empty-requires-clause-there c =
    let ls = c.args.links.now in let walk = c.loop-next.invariant.walk in
    let is = MatchBool-at_true _ _ c.loop-next-test.true c.is_later.ensures in
    let low = at-low ls c.args.ring.now.slots c.requires.ordered c.args.above c.loop-next.at walk.0 is.0 in
    omega (arith, low, ap length walk.1, length-wiped None walk.0.done ls)

pub empty-requires-clause-room : goal.empty-requires-clause-room
empty-requires-clause-room c =
    let is = MatchBool-at_true _ _ c.loop-next-test.true c.is_later.ensures in
    c.loop-next.invariant.free.long c.loop-next.at (omega (arith, is.0)) (empty-requires-clause-there c)

pub loop-next-preserved : goal.loop-next-preserved
loop-next-preserved c =
    let ls = c.args.links.now in let slots = c.args.ring.now.slots in let above = c.args.above in let at = c.loop-next.at in
    let i = c.loop-next.invariant in let w = i.walk.0 in
    let is = MatchBool-at_true _ _ c.loop-next-test.true c.is_later.ensures in
    let same = at-still ls slots c.requires.ordered above at w is.0 c.loop-next.links i.walk.1 in
    let less : stamp_in ls above < stamp_in ls at = omega (arith, is.1, same, c.stamp-oldest.ensures) in
    let low : at < length c.loop-next.links = omega (
      arith,
      at-low ls slots c.requires.ordered above at w is.0,
      ap length i.walk.1,
      length-wiped None w.done ls,
    ) in
    record {
      walk = (
        walk-more ls slots c.requires.ordered above at w is.0 less c.after-next.result c.after-next.ensures,
        c.empty.ensures.links ∙ ap (λ (l : List (Option Link)). set l at None) i.walk.1 ∙ sym (wiped-more None w.done at ls),
      );
      free = subst (λ (l : List (Option Link)). AreFree l c.empty.new.free) (sym c.empty.ensures.links)
          (free-emptied c.loop-next.links c.loop-next.free c.empty.new.free at i.free low c.empty.ensures.long c.empty.ensures.marked);
    }

pub loop-next-smaller : goal.loop-next-smaller
loop-next-smaller c =
    let is = MatchBool-at_true _ _ c.loop-next-test.true c.is_later.ensures in
    nearer c.args.links.now c.args.ring.now.slots c.requires.ordered c.args.above c.loop-next.at c.loop-next.invariant.walk.0 is.0
    c.after-next.result c.after-next.ensures

pub returns : goal.returns
returns c =
    let ls = c.args.links.now in let slots = c.args.ring.now.slots in let above = c.args.above in let at = c.loop-next.at in
    let i = c.loop-next.invariant in let w = i.walk.0 in
    let last = MatchBool-at_false _ _ c.loop-next-test.false c.is_later.ensures in
    let ends = walk-past ls slots c.requires.ordered above at w c.is_ring.ensures.root
    (λ some. let less = last some in
    let same = at-still ls slots c.requires.ordered above at w some c.loop-next.links i.walk.1 in
    omega (arith, less, same, c.stamp-oldest.ensures)) in
    record {
      links = i.walk.1
          ∙ wiped-cleared None (is_under ls above) w.done ls (done-under ls slots c.requires.ordered above c.requires.forest at w ends);
      free = i.free;
      past = record { walk = w; ends = ends };
    }
