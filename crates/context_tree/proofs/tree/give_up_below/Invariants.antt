use Rattle.std.proofs.Common.{◌≡◌, ◌+◌}
use Rattle.context_tree.specs.Preorders.{Walk}
use Rattle.context_tree.proofs.Words.{no_context, held_by_all}
use Rattle.context_tree.proofs.Walks.{wiped, away}
use Rattle.context_tree.proofs.tree.give_up_below.Given as goal

abbrev pub invariant-loop-alloc : goal.invariant-loop-alloc
invariant-loop-alloc l = record {
  walk : (w : Walk l.links l.ring.slots l.above l.at) × (l.contexts ≡ wiped no_context w.done l.fn.contexts);
  given : held_by_all l.contexts + l.given ≡ held_by_all l.fn.contexts;
}

abbrev pub decreases-loop-alloc : goal.decreases-loop-alloc
decreases-loop-alloc l = away l.at l.ring.slots
