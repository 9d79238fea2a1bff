use Rattle.std.proofs.Common.{◌≡◌, drop}
use Rattle.chunk_contexts.proofs.Words.{rooms_down, cut_chunks, AreLists, IsRest}
use Rattle.chunk_contexts.proofs.free_lists.FreeLists.cut_up.Given as goal

abbrev pub invariant-loop-index : goal.invariant-loop-index
invariant-loop-index l = record {
  lists : AreLists l.self.layout l.self.heads;
  blocks : l.self.layout.blocks ≡ l.fn.self.layout.blocks;
  rest : IsRest l.self.layout l.rest;
  block : l.rest.block ≡ l.fn.block.block;
  size : l.rest.size ≡ l.fn.block.size;
  cut : cut_chunks (drop l.index rooms_down) l.fn.block.block l.rest.used l.fn.block.size l.self.layout.contents
      ≡ cut_chunks rooms_down l.fn.block.block l.fn.block.used l.fn.block.size l.fn.self.layout.contents;
}
