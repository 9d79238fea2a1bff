use Rattle.std.proofs.Common.{◌≡◌, ◌<◌, ℕ, length, get_or}
use Rattle.chunk_contexts.specs.Slab.{no_block}
use Rattle.chunk_contexts.proofs.slab_chunks.forget_entries.Given as goal

abbrev pub invariant-loop-block : goal.invariant-loop-block
invariant-loop-block l = record {
  long : length l.blocks.items ≡ length l.fn.blocks.items;
  none : (k : ℕ) → k < l.block → get_or l.blocks.items k no_block ≡ no_block;
}
