use Rattle.block_memory.specs.Cells.{zeros}
use Rattle.block_memory.specs.Lemmas.CellLemmas.{length-with_bytes}
use Rattle.block_memory.proofs.block.RawBlock.zero.Goals as goal

pub returns-clause-written : goal.returns-clause-written
unfolding zeros
returns-clause-written c = rw (c.fill.ensures.cells, c.self.view_is)

pub returns-clause-len : goal.returns-clause-len
returns-clause-len c = rw (c.fill.ensures.cells, length-with_bytes, c.self.view_is)
