use Rattle.std.proofs.lemmas.Bool.Decides.{nat_tests}
use Rattle.std.proofs.Common.{arith}
use Rattle.chunk_layout.proofs.Numbers.{with_block-end}
use Rattle.chunk_layout.proofs.blocks.push_block.Goals as goal

pub returns-clause-added : goal.returns-clause-added
returns-clause-added c = grind (arith, nat_tests, with_block-end)
