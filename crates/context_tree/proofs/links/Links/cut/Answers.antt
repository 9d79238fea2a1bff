use Rattle.std.proofs.Common.{List, Option, None, get_or, ap, sym, subst, ◌∙◌}
use Rattle.std.specs.Prelude.{IsTrue, is_some}
use Rattle.context_tree.specs.Preorders.{IsOrdered, IsPast}
use Rattle.context_tree.proofs.Words.{is_below, cleared, Link}
use Rattle.context_tree.proofs.Clearing.{forest-cut, items-cleared, fields-cleared}
use Rattle.context_tree.proofs.links.Links.cut.Goals as goal

pub invariant_of-self : goal.invariant_of-self
invariant_of-self c =
    let x = c.self.inside in let ls = x.links.items in let slot = c.args.slot in
    fields-cleared x c.self.invariant (is_below ls slot) (forest-cut ls c.self.invariant.forest slot c.requires.below)
    c.deref_mut.result.now c.cut.new.links c.deref_mut.ensures.value (c.cut.ensures.links
    ∙ ap (λ (l : List (Option Link)). cleared (is_below l slot) None 0 c.deref_mut.result.now) c.deref_mut.ensures.value) c.cut.new.free
    c.cut.ensures.free

pub returns-clause-links : goal.returns-clause-links
returns-clause-links c =
    let x = c.self.inside in let ls = x.links.items in let slot = c.args.slot in
    items-cleared x c.self.invariant (is_below ls slot) (forest-cut ls c.self.invariant.forest slot c.requires.below) c.deref_mut.result.now
    c.cut.new.links c.deref_mut.ensures.value (c.cut.ensures.links
    ∙ ap (λ (l : List (Option Link)). cleared (is_below l slot) None 0 c.deref_mut.result.now) c.deref_mut.ensures.value)
    ∙ ap (λ (l : List (Option Link)). cleared (is_below l slot) None 0 l) c.self.view_is

pub cut-requires-clause-ordered : goal.cut-requires-clause-ordered
cut-requires-clause-ordered c = subst (λ (l : List (Option Link)). IsOrdered l c.args.ring.now.slots)
    (sym (c.deref_mut.ensures.value ∙ c.self.view_is)) c.requires.ordered

pub cut-requires-clause-there : goal.cut-requires-clause-there
cut-requires-clause-there c = subst (λ (l : List (Option Link)). IsTrue (is_some (get_or l c.args.slot None)))
    (sym (c.deref_mut.ensures.value ∙ c.self.view_is)) c.requires.there

pub returns-clause-past : goal.returns-clause-past
returns-clause-past c = subst (λ (l : List (Option Link)). IsPast l c.args.ring.now.slots c.args.slot c.cut.result)
    (c.deref_mut.ensures.value ∙ c.self.view_is) c.cut.ensures.past
