use Rattle.std.proofs.Common.{List, ap, ◌∙◌, length}
use Rattle.context_tree.specs.Rings.{RingState, after_at, before_at}
use Rattle.context_tree.specs.RingFields.{ring_of}
use Rattle.context_tree.specs.declared.ring.Near.{Near}
use Rattle.context_tree.proofs.Rings.{ring-before}
use Rattle.context_tree.proofs.ring.Ring.before.Goals as goal

pub returns : goal.returns
returns c front rest first is =
    let near = c.self.inside.near.items in
    c.before-2.ensures ∙ ap (λ (l : List Near). before_at l c.args.slot) c.deref.ensures
    ∙ ring-before (length near) (after_at near) (before_at near) (ring_of c.self.inside).slots front first c.args.slot rest
    c.self.invariant (ap (λ (r : RingState). r.slots) c.self.view_is ∙ is)
