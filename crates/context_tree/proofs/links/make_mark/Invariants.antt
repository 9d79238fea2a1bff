use Rattle.std.proofs.Common.{◌≡◌, ◌≤◌, ◌+◌, ◌-◌, ℕ, false, length, get_or}
use Rattle.context_tree.proofs.links.make_mark.Given as goal

abbrev pub invariant-loop-free : goal.invariant-loop-free
invariant-loop-free l = record {
  same : (k : ℕ) → get_or l.free k false ≡ get_or l.fn.free k false;
  long : length l.fn.free ≤ length l.free;
}

abbrev pub decreases-loop-free : goal.decreases-loop-free
decreases-loop-free l = l.slot + 1 - length l.free
