use Rattle.std.proofs.Common.{◌≡◌, ◌+◌, ◌∷◌}
use Rattle.context_tree.specs.Preorders.{Walk}
use Rattle.context_tree.proofs.Words.{no_context, held_by_all}
use Rattle.context_tree.proofs.Walks.{wiped, away}
use Rattle.context_tree.proofs.tree.sum_below.Given as goal

abbrev pub invariant-loop-next : goal.invariant-loop-next
invariant-loop-next l = (w : Walk l.links l.ring.slots l.above l.at)
    × (held_by_all (wiped no_context (l.above ∷ w.done) l.contexts) + l.sum ≡ held_by_all l.contexts)

abbrev pub decreases-loop-next : goal.decreases-loop-next
decreases-loop-next l = away l.at l.ring.slots
