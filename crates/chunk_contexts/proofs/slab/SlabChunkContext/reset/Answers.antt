use Rattle.chunk_contexts.proofs.Laws.{common_steps, nat_tests}
use Rattle.std.proofs.Common.{length, arith}
use Rattle.chunk_contexts.proofs.Growth.{total-none}
use Rattle.chunk_contexts.proofs.slab.SlabChunkContext.reset.Goals as goal

pub returns-clause-most : goal.returns-clause-most
returns-clause-most c = grind (arith, nat_tests, common_steps, total-none (length c.self.inside.inner.layout.blocks))
