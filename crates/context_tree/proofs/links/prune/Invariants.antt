use Rattle.std.proofs.Common.{◌≡◌, None}
use Rattle.context_tree.specs.Preorders.{Walk}
use Rattle.context_tree.proofs.Words.{AreFree}
use Rattle.context_tree.proofs.Walks.{wiped, away}
use Rattle.context_tree.proofs.links.prune.Given as goal

abbrev pub invariant-loop-next : goal.invariant-loop-next
invariant-loop-next l = record {
  walk : (w : Walk l.fn.links l.ring.slots l.above l.at) × (l.links ≡ wiped None w.done l.fn.links);
  free : AreFree l.links l.free;
}

abbrev pub decreases-loop-next : goal.decreases-loop-next
decreases-loop-next l = away l.at l.ring.slots
