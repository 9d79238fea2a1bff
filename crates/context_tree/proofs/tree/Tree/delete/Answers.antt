use Rattle.std.proofs.Common.{◌+◌, ◌<◌, ◌∷◌, List, Option, ap, sym, subst, ◌∙◌, arith}
use Rattle.context_tree.specs.Preorders.{IsOrdered}
use Rattle.context_tree.proofs.Words.{is_below, TreeState, deleted, held_below, held_by_all, Link}
use Rattle.context_tree.proofs.Bounds.{all-given}
use Rattle.context_tree.proofs.TreeLaws.{AreGivenUp, given-less, given-up, fields-given}
use Rattle.context_tree.proofs.Walks.{behind-of, split-from, between-all, ordered-behind}
use Rattle.context_tree.proofs.tree.Tree.delete.Goals.{After-skip}
use Rattle.context_tree.proofs.tree.Tree.delete.Goals as goal

-- the contexts of the links that were given up
up : (c : After-skip) → AreGivenUp c.self.inside (is_below c.self.inside.links c.args.id.slot) c.cut-next.new.self c.deref_mut.result.now
    c.give_up_with-given_up.new.contexts c.give_up_with-given_up.result
up c = record {
  are = c.self.invariant;
  links = c.cut-next.ensures.links;
  same = c.deref_mut.ensures.value;
  told = c.give_up_with-given_up.ensures.contexts;
  sum = c.give_up_with-given_up.ensures.given;
}

pub overflow_sub-self : goal.overflow_sub-self
overflow_sub-self c = given-less _ _ _ _ _ _ (up (goal.at.overflow_sub-self c).After-skip)

pub skip-requires : goal.skip-requires
skip-requires c = between-all c.is_ring.ensures.first (omega (arith, c.if-id-eq-ROOT.false)) c.cut-next.ensures.past c.before-first.result
    c.before-first.ensures

pub invariant_of-self : goal.invariant_of-self
invariant_of-self c =
    let gone = up (goal.at.invariant_of-self c).After-skip in
    let less = given-less _ _ _ _ _ _ gone in
    let x = c.self.inside in let past = c.cut-next.ensures.past in let w = past.walk in let slot = c.args.id.slot in
    let root = c.is_ring.ensures.first in let low : 0 < slot = omega (arith, c.if-id-eq-ROOT.false) in
    let first = c.before-first.result in let before = c.before-first.ensures in
    let slots = c.skip.ensures.slots (behind-of root low past).outer (slot ∷ w.done) w.rest (split-from root low past first before) w.here
    in
    let ordered = ordered-behind root low past first before c.self.invariant.ordered c.is_forest.ensures in
    fields-given _ _ _ _ _ _ gone c.skip.new.self
    (subst (λ (l : List (Option Link)). IsOrdered l c.skip.new.self.slots) (sym c.cut-next.ensures.links)
    (subst (IsOrdered _) (sym slots) ordered))
    c.skip.ensures.room _ (omega (arith, less))

pub returns-clause-space : goal.returns-clause-space
returns-clause-space c =
    given-up _ _ _ _ _ _ (up (goal.at.returns-clause-space c).After-skip)
    ∙ ap (λ (t : TreeState). deleted t c.args.id) c.self.view_is

pub returns-clause-given : goal.returns-clause-given
returns-clause-given c =
    let now = c.args.self.now in let id = c.args.id in
    ap (λ (t : TreeState). held_by_all t.contexts + held_below now id) (returns-clause-space c)
    ∙ all-given now.links id.slot 0 now.contexts
