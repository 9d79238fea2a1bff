use Rattle.chunk_contexts.proofs.Laws.{common_steps, nat_tests}
use Rattle.std.proofs.Common.{arith}
use Rattle.chunk_contexts.proofs.Content.{laid-live}
use Rattle.chunk_contexts.proofs.Sums.{laid-enough}
use Rattle.chunk_contexts.proofs.slab.SlabChunkContext.are_laid.Goals as goal

pub returns : goal.returns
returns c = grind (
  arith,
  nat_tests,
  common_steps,
  laid-live c.self.inside.inner.layout.blocks c.self.inside.inner.layout.contents
      c.are_laid.ensures,
  laid-enough,
)
