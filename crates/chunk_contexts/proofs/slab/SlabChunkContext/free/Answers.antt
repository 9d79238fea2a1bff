use Rattle.std.proofs.Common.{◌≡◌, length, sym, subst, arith}
use Rattle.chunk_contexts.proofs.Words.{Every, ChunkContents, live}
use Rattle.chunk_contexts.proofs.Laws.{every_filter, common_steps, nat_tests}
use Rattle.chunk_contexts.specs.Slab.{SlabState}
use Rattle.chunk_contexts.proofs.Growth.{less-by}
use Rattle.chunk_contexts.proofs.Content.{without-keeps}
use Rattle.chunk_contexts.proofs.slab.SlabChunkContext.free.Goals as goal

pub invariant_of-self : goal.invariant_of-self
invariant_of-self c = record {
  chunks = c.release.ensures.chunks;
  sizes = subst (λ (s : SlabState). Every (λ (p : ChunkContents). length p.bytes ≡ s.size) s.chunks) (sym c.release.ensures.freed)
      (every_filter (λ (p : ChunkContents). length p.bytes ≡ c.self.inside.inner.size) _ (live c.self.inside.inner.layout.contents)
      c.self.invariant.sizes);
}

pub returns-clause-keeps : goal.returns-clause-keeps
returns-clause-keeps c = grind (arith, nat_tests, common_steps, without-keeps)

pub returns-clause-most : goal.returns-clause-most
returns-clause-most c = grind (arith, nat_tests, common_steps, less-by)
