use Rattle.std.proofs.Common.{◌∷◌, ◌++◌, ◌<◌, ℕ, List, length, sym, ap, ◌∙◌, subst, refl}
use Rattle.context_tree.specs.Rings.{RingState, after_at, before_at, is_in}
use Rattle.context_tree.specs.RingFields.{ring_of}
use Rattle.context_tree.specs.declared.ring.Near.{Near}
use Rattle.context_tree.proofs.Rings.{rest-low, in-right, in-here}
use Rattle.context_tree.proofs.Near.{ring-skipped, fields-written, slots-written}
use Rattle.context_tree.proofs.ring.Ring.skip.Goals as goal

pub join-requires-clause-slot : goal.join-requires-clause-slot
join-requires-clause-slot c =
    let slot = c.args.slot in let w = c.requires in
    subst (λ (l : List Near). slot < length l) (sym c.deref_mut.ensures.value)
    (c.self.invariant.low slot
    (ap (is_in slot) (ap (λ (r : RingState). r.slots) c.self.view_is ∙ w.split)
    ∙ in-right slot w.front (slot ∷ (w.between ++ w.rest)) (in-here slot slot (w.between ++ w.rest) refl)))

pub join-requires-clause-next : goal.join-requires-clause-next
join-requires-clause-next c =
    let near = c.self.inside.near.items in let w = c.requires in
    subst (λ (l : List Near). c.args.next < length l) (sym c.deref_mut.ensures.value)
    (subst (λ (k : ℕ). k < length near) (sym w.ends)
    (rest-low (length near) (after_at near) (before_at near) (ring_of c.self.inside).slots w.front c.args.slot w.between w.rest
    c.self.invariant (ap (λ (r : RingState). r.slots) c.self.view_is ∙ w.split)))

pub invariant_of-self : goal.invariant_of-self
invariant_of-self c =
    let x = c.self.inside in let w = c.requires in
    fields-written x c.deref_mut.result.now c.join.new.near c.deref_mut.ensures.value c.join.ensures.long (w.front ++ c.args.slot ∷ w.rest)
    (ring-skipped x c.self.invariant c.deref_mut.result.now c.join.new.near c.deref_mut.ensures.value c.join.ensures.long c.args.slot
    c.args.next c.join.ensures.after c.join.ensures.before w.front w.between w.rest
    (ap (λ (r : RingState). r.slots) c.self.view_is ∙ w.split) w.ends)

pub returns-clause-slots : goal.returns-clause-slots
returns-clause-slots c front between rest is ends =
    let x = c.self.inside in
    slots-written x c.deref_mut.result.now c.join.new.near c.deref_mut.ensures.value c.join.ensures.long (front ++ c.args.slot ∷ rest)
    (ring-skipped x c.self.invariant c.deref_mut.result.now c.join.new.near c.deref_mut.ensures.value c.join.ensures.long c.args.slot
    c.args.next c.join.ensures.after c.join.ensures.before front between rest (ap (λ (r : RingState). r.slots) c.self.view_is ∙ is) ends)
