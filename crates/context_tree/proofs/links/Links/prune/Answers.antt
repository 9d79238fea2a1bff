use Rattle.std.proofs.Common.{List, Option, None, get_or, ap, sym, subst, ◌∙◌}
use Rattle.std.specs.Prelude.{IsTrue, is_some}
use Rattle.context_tree.specs.Preorders.{IsOrdered, IsPast}
use Rattle.context_tree.proofs.Words.{is_under, cleared, Link}
use Rattle.context_tree.proofs.Clearing.{forest-pruned, items-cleared, fields-cleared}
use Rattle.context_tree.proofs.links.Links.prune.Goals as goal

pub invariant_of-self : goal.invariant_of-self
invariant_of-self c =
    let x = c.self.inside in let ls = x.links.items in let slot = c.args.above in
    fields-cleared x c.self.invariant (is_under ls slot) (forest-pruned ls c.self.invariant.forest slot) c.deref_mut.result.now
    c.prune.new.links c.deref_mut.ensures.value (c.prune.ensures.links
    ∙ ap (λ (l : List (Option Link)). cleared (is_under l slot) None 0 c.deref_mut.result.now) c.deref_mut.ensures.value)
    c.prune.new.free c.prune.ensures.free

pub returns-clause-links : goal.returns-clause-links
returns-clause-links c =
    let x = c.self.inside in let ls = x.links.items in let slot = c.args.above in
    items-cleared x c.self.invariant (is_under ls slot) (forest-pruned ls c.self.invariant.forest slot) c.deref_mut.result.now
    c.prune.new.links c.deref_mut.ensures.value (c.prune.ensures.links
    ∙ ap (λ (l : List (Option Link)). cleared (is_under l slot) None 0 c.deref_mut.result.now) c.deref_mut.ensures.value)
    ∙ ap (λ (l : List (Option Link)). cleared (is_under l slot) None 0 l) c.self.view_is

pub prune-requires-clause-ordered : goal.prune-requires-clause-ordered
prune-requires-clause-ordered c = subst (λ (l : List (Option Link)). IsOrdered l c.args.ring.now.slots)
    (sym (c.deref_mut.ensures.value ∙ c.self.view_is)) c.requires.ordered

pub prune-requires-clause-there : goal.prune-requires-clause-there
prune-requires-clause-there c = subst (λ (l : List (Option Link)). IsTrue (is_some (get_or l c.args.above None)))
    (sym (c.deref_mut.ensures.value ∙ c.self.view_is)) c.requires.there

pub returns-clause-past : goal.returns-clause-past
returns-clause-past c = subst (λ (l : List (Option Link)). IsPast l c.args.ring.now.slots c.args.above c.prune.result)
    (c.deref_mut.ensures.value ∙ c.self.view_is) c.prune.ensures.past
