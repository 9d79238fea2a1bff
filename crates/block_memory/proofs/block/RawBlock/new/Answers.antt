use Rattle.std.proofs.Common.{arith}
use Rattle.block_memory.specs.Lemmas.CellLemmas.{length-blank_cells}
use Rattle.block_memory.proofs.block.RawBlock.new.Goals as goal

pub invariant_of-result : goal.invariant_of-result
invariant_of-result c = record {
  here = c.in_ok-start.ensures.here;
  whole = rw (c.in_ok-start.ensures.cells, length-blank_cells);
  not_empty = c.requires;
  small = omega arith;
}

pub returns-clause-len : goal.returns-clause-len
returns-clause-len c = rw (c.in_ok-start.ensures.cells, length-blank_cells)
