use Rattle.chunk_contexts.proofs.Laws.{common_steps, nat_tests}
use Rattle.std.proofs.Common.{arith}
use Rattle.chunk_contexts.proofs.Growth.{less-by}
use Rattle.chunk_contexts.proofs.Content.{without-keeps}
use Rattle.chunk_contexts.proofs.alloc_set.AllocSetChunkContext.free.Goals as goal

pub returns-clause-keeps : goal.returns-clause-keeps
returns-clause-keeps c = grind (arith, nat_tests, common_steps, without-keeps)

pub returns-clause-most : goal.returns-clause-most
returns-clause-most c = grind (arith, nat_tests, common_steps, less-by)
