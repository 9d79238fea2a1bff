use Rattle.chunk_contexts.proofs.Laws.{common_steps, nat_tests}
use Rattle.std.proofs.Common.{arith}
use Rattle.chunk_contexts.proofs.Growth.{total-only}
use Rattle.chunk_contexts.proofs.alloc_set.AllocSetChunkContext.reset.Goals as goal

pub returns-clause-most : goal.returns-clause-most
returns-clause-most c = grind (arith, nat_tests, common_steps, total-only)
