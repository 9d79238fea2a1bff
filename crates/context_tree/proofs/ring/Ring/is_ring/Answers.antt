use Rattle.std.proofs.Common.{ap, ◌∙◌, length}
use Rattle.context_tree.specs.Rings.{RingState, after_at, before_at}
use Rattle.context_tree.specs.RingFields.{ring_of}
use Rattle.context_tree.proofs.Rings.{root-first}
use Rattle.context_tree.proofs.ring.Ring.is_ring.Goals as goal

pub returns-clause-root : goal.returns-clause-root
returns-clause-root c front rest slot is =
    let near = c.self.inside.near.items in
    root-first (length near) (after_at near) (before_at near) (ring_of c.self.inside).slots front slot rest c.self.invariant
    (ap (λ (r : RingState). r.slots) c.self.view_is ∙ is)
