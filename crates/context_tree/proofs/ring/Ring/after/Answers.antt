use Rattle.std.proofs.Common.{List, ap, ◌∙◌, length}
use Rattle.context_tree.specs.Rings.{RingState, after_at, before_at}
use Rattle.context_tree.specs.RingFields.{ring_of}
use Rattle.context_tree.specs.declared.ring.Near.{Near}
use Rattle.context_tree.proofs.Rings.{ring-after}
use Rattle.context_tree.proofs.ring.Ring.after.Goals as goal

pub returns : goal.returns
returns c front rest is =
    let near = c.self.inside.near.items in
    c.after.ensures ∙ ap (λ (l : List Near). after_at l c.args.slot) c.deref.ensures
    ∙ ring-after (length near) (after_at near) (before_at near) (ring_of c.self.inside).slots front c.args.slot rest c.self.invariant
    (ap (λ (r : RingState). r.slots) c.self.view_is ∙ is)
