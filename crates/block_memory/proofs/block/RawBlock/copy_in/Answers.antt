use Rattle.block_memory.specs.Lemmas.CellLemmas.{length-with_bytes}
use Rattle.block_memory.proofs.block.RawBlock.copy_in.Goals as goal

pub returns-clause-len : goal.returns-clause-len
returns-clause-len c = rw (c.write.ensures.cells, length-with_bytes, c.self.view_is)
