use Rattle.block_memory.specs.Lemmas.CellLemmas.{word_of_bytes}
use Rattle.block_memory.proofs.block.word_of.Goals as goal

pub returns : goal.returns
returns c = word_of_bytes c.args.bytes.now c.from_be_bytes.result c.requires (λ i. (c.type_inv.bytes i).fits) c.from_be_bytes.ensures
