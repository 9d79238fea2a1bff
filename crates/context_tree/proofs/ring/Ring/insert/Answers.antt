use Rattle.std.proofs.Common.{◌≡◌, ◌∷◌, ◌++◌, ◌<◌, true, false, List, length, sym, ap, ◌∙◌, subst}
use Rattle.context_tree.specs.Rings.{RingState, after_at, before_at, is_in}
use Rattle.context_tree.specs.RingFields.{ring_of}
use Rattle.context_tree.specs.declared.ring.Near.{Near}
use Rattle.context_tree.proofs.Rings.{parted, next-low}
use Rattle.context_tree.proofs.Near.{ring-inserted, fields-written, slots-written}
use Rattle.context_tree.proofs.ring.Ring.insert.Goals as goal

pub put-requires-clause-next : goal.put-requires-clause-next
put-requires-clause-next c =
    let near = c.self.inside.near.items in
    subst (λ (l : List Near). after_at l c.args.slot < length l) (sym c.deref_mut.ensures.value)
    (next-low (length near) (after_at near) (before_at near) (ring_of c.self.inside).slots c.self.invariant c.args.slot
    (ap (λ (r : RingState). is_in c.args.slot r.slots) c.self.view_is ∙ c.requires.there))

pub invariant_of-self : goal.invariant_of-self
invariant_of-self c =
    let x = c.self.inside in let slot = c.args.slot in let new = c.args.new in
    let there : is_in slot (ring_of x).slots ≡ true = ap (λ (r : RingState). is_in slot r.slots) c.self.view_is ∙ c.requires.there in
    let fresh : is_in new (ring_of x).slots ≡ false = ap (λ (r : RingState). is_in new r.slots) c.self.view_is ∙ c.requires.new in
    let low : new < length x.near.items = subst (λ (r : RingState). new < r.room) (sym c.self.view_is) c.requires.room in
    let at = parted slot (ring_of x).slots there in
    fields-written x c.deref_mut.result.now c.put.new.near c.deref_mut.ensures.value c.put.ensures.long (at.0 ++ slot ∷ new ∷ at.1)
    (ring-inserted x c.self.invariant c.deref_mut.result.now c.put.new.near c.deref_mut.ensures.value c.put.ensures.long slot new fresh low
    c.put.ensures.after c.put.ensures.before at.0 at.1 at.2)

pub returns-clause-slots : goal.returns-clause-slots
returns-clause-slots c front rest is =
    let x = c.self.inside in let slot = c.args.slot in let new = c.args.new in
    let fresh : is_in new (ring_of x).slots ≡ false = ap (λ (r : RingState). is_in new r.slots) c.self.view_is ∙ c.requires.new in
    let low : new < length x.near.items = subst (λ (r : RingState). new < r.room) (sym c.self.view_is) c.requires.room in
    slots-written x c.deref_mut.result.now c.put.new.near c.deref_mut.ensures.value c.put.ensures.long (front ++ slot ∷ new ∷ rest)
    (ring-inserted x c.self.invariant c.deref_mut.result.now c.put.new.near c.deref_mut.ensures.value c.put.ensures.long slot new fresh low
    c.put.ensures.after c.put.ensures.before front rest (ap (λ (r : RingState). r.slots) c.self.view_is ∙ is))
