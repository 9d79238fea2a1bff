use Rattle.chunk_contexts.proofs.Laws.{common_steps, nat_tests}
use Rattle.std.proofs.Common.{length, arith}
use Rattle.chunk_contexts.proofs.Growth.{total-none}
use Rattle.chunk_contexts.proofs.generation.GenerationChunkContext.reset.Goals as goal

pub returns-clause-most : goal.returns-clause-most
returns-clause-most c = grind (arith, nat_tests, common_steps, total-none (length c.self.inside.runs.layout.blocks))
