use Rattle.std.proofs.Common.{◌≡◌, ◌<◌, ℕ, length, get_or}
use Rattle.chunk_contexts.proofs.generation.forget_counts.Given as goal

abbrev pub invariant-loop-block : goal.invariant-loop-block
invariant-loop-block l = record {
  long : length l.counts.items ≡ length l.fn.counts.items;
  none : (k : ℕ) → k < l.block → get_or l.counts.items k 0 ≡ 0;
}
