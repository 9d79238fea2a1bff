use Rattle.std.proofs.Common.{◌≡◌, ◌<◌, ◌≤◌, ℕ, [], None, length, get_or}
use Rattle.chunk_layout.specs.Contents.{only}
use Rattle.chunk_layout.proofs.layout.ChunkLayout.clear.Given as goal

abbrev pub invariant-loop-block : goal.invariant-loop-block
invariant-loop-block l = record {
  head : l.self.head ≡ l.fn.self.head;
  contents : l.self.contents ≡ [];
  count : length l.self.blocks ≡ length l.fn.self.blocks;
  upto : l.block ≤ length l.fn.self.blocks;
  done : (k : ℕ) → k < l.block → get_or l.self.blocks k None ≡ get_or (only l.fn.self.blocks l.keep) k None;
  left : (k : ℕ) → l.block ≤ k → get_or l.self.blocks k None ≡ get_or l.fn.self.blocks k None;
}
