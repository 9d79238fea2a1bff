use Rattle.std.proofs.Common.{ap, ◌∙◌}
use Rattle.context_tree.specs.Rings.{RingState}
use Rattle.context_tree.proofs.Near.{fields-roomy, slots-roomy}
use Rattle.context_tree.proofs.ring.Ring.make_room.Goals as goal

pub invariant_of-self : goal.invariant_of-self
invariant_of-self c = fields-roomy c.self.inside c.self.invariant c.push.new.self.items c.in_ok-push.ensures.ok

pub returns-in_ok-push-clause-same : goal.returns-in_ok-push-clause-same
returns-in_ok-push-clause-same c = slots-roomy c.self.inside c.self.invariant c.push.new.self.items c.in_ok-push.ensures.ok
    ∙ ap (λ (r : RingState). r.slots) c.self.view_is
