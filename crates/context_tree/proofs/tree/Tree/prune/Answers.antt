use Rattle.std.proofs.Common.{◌≡◌, List, Option, None, get_or, refl, ap, sym, ◌∙◌, arith, subst}
use Rattle.std.proofs.lemmas.Bool.{cond-false}
use Rattle.context_tree.specs.Preorders.{IsOrdered}
use Rattle.context_tree.proofs.Words.{no_context, is_under, TreeState, has_stamp, is_there, context_at, without_slots, Context, Link}
use Rattle.context_tree.proofs.Clearing.{get_or-cleared}
use Rattle.context_tree.specs.Lemmas.Forest.{not-under-itself}
use Rattle.context_tree.proofs.TreeLaws.{AreGivenUp, given-less, all-given, given-up, fields-given}
use Rattle.context_tree.proofs.Walks.{ordered-pruned, between-them}
use Rattle.context_tree.proofs.tree.Tree.prune.Goals.{After-skip}
use Rattle.context_tree.proofs.tree.Tree.prune.Goals as goal

-- the contexts of the links that were given up
up : (c : After-skip) → AreGivenUp c.self.inside (is_under c.self.inside.links c.args.id.slot) c.prune-next.new.self
    c.deref_mut.result.now c.give_up_below-given.new.contexts c.give_up_below-given.result
up c = record {
  are = c.self.invariant;
  links = c.prune-next.ensures.links;
  same = c.deref_mut.ensures.value;
  told = c.give_up_below-given.ensures.contexts;
  sum = c.give_up_below-given.ensures.given;
}

pub skip-requires : goal.skip-requires
skip-requires c = between-them c.prune-next.ensures.past

pub overflow_sub-self : goal.overflow_sub-self
overflow_sub-self c = given-less _ _ _ _ _ _ (up (goal.at.overflow_sub-self c).After-skip)

pub invariant_of-self : goal.invariant_of-self
invariant_of-self c =
    let gone = up (goal.at.invariant_of-self c).After-skip in
    let less = given-less _ _ _ _ _ _ gone in
    let x = c.self.inside in let past = c.prune-next.ensures.past in let w = past.walk in
    let slots = c.skip.ensures.slots w.front w.done w.rest w.split w.here in
    let ordered = ordered-pruned x.links x.ring.slots c.self.invariant.ordered c.args.id.slot c.is_forest.ensures
    c.prune-next.result past in
    fields-given _ _ _ _ _ _ gone c.skip.new.self
    (subst (λ (l : List (Option Link)). IsOrdered l c.skip.new.self.slots) (sym c.prune-next.ensures.links)
    (subst (IsOrdered _) (sym slots) ordered))
    c.skip.ensures.room _ (omega (arith, less))

pub returns-clause-gone : goal.returns-clause-gone
returns-clause-gone c =
    given-up _ _ _ _ _ _ (up (goal.at.returns-clause-gone c).After-skip)
    ∙ ap (λ (t : TreeState). without_slots t (is_under t.links c.args.id.slot)) c.self.view_is

pub returns-clause-there : goal.returns-clause-there
returns-clause-there c =
    let x = c.self.inside in let slot = c.args.id.slot in
    let link : get_or c.prune-next.new.self slot None ≡ get_or x.links slot None =
    ap (λ (l : List (Option Link)). get_or l slot None) c.prune-next.ensures.links
    ∙ get_or-cleared (is_under x.links slot) None x.links slot
    ∙ cond-false (is_under x.links slot slot) None (get_or x.links slot None) (not-under-itself x.links c.is_forest.ensures slot slot refl)
    in
    ap (λ (l : Option Link). has_stamp l c.args.id.stamp) link ∙ ap (λ (t : TreeState). is_there t c.args.id) c.self.view_is ∙ c.requires

pub returns-clause-same : goal.returns-clause-same
returns-clause-same c =
    let x = c.self.inside in let slot = c.args.id.slot in
    ap (λ (cs : List Context). get_or cs slot no_context)
    (all-given _ _ _ _ _ _ (up (goal.at.returns-clause-same c).After-skip))
    ∙ get_or-cleared (is_under x.links slot) no_context x.contexts.items slot
    ∙ cond-false (is_under x.links slot slot) no_context (get_or x.contexts.items slot no_context)
    (not-under-itself x.links c.is_forest.ensures slot slot refl)
    ∙ ap (λ (t : TreeState). context_at t c.args.id) c.self.view_is
