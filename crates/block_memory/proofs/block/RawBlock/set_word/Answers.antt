use Rattle.block_memory.specs.Words.{word_bytes}
use Rattle.block_memory.proofs.block.RawBlock.set_word.Goals as goal

pub returns-clause-written : goal.returns-clause-written
unfolding word_bytes
returns-clause-written c = rw (c.copy_in.ensures.written, c.to_be_bytes-bytes.ensures)
