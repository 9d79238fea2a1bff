use Rattle.std.proofs.Common.{◌≡◌, length, sym, ◌∙◌, subst, rules, arith}
use Rattle.chunk_contexts.proofs.Words.{Every, ChunkContents, over_most}
use Rattle.chunk_contexts.proofs.Laws.{always_err, common_steps, nat_tests}
use Rattle.chunk_contexts.specs.Slab.{SlabState}
use Rattle.chunk_contexts.proofs.Content.{adding}
use Rattle.chunk_contexts.proofs.SlabViews.{admitted-size, refused-size, refused-memory, served}
use Rattle.chunk_contexts.proofs.slab.SlabChunkContext.alloc.Goals as goal

pub returns-in_err-check_size-clause-refused : goal.returns-in_err-check_size-clause-refused
returns-in_err-check_size-clause-refused c = refused-size _ _ _ c.self.view_is (length c.args.bytes.now) _ c.from_residual.ensures.1
    c.in_err-check_size.ensures

pub returns-in_err-name-clause-refused : goal.returns-in_err-name-clause-refused
returns-in_err-name-clause-refused c = refused-memory _ _ _ c.self.view_is (length c.args.bytes.now) c.from_residual-in_err-name.ensures.1
    c.in_ok-check_size.ensures c.in_err-name.ensures.refused.1

pub returns-in_err-name-clause-unchanged : goal.returns-in_err-name-clause-unchanged
returns-in_err-name-clause-unchanged c = always_err c.from_residual-in_err-name.result (c.in_err-name.ensures.refused.0 ∙ c.self.view_is)

pub returns : goal.returns
returns c =
    let told = c.in_ok-name.ensures in let n = length c.args.bytes.now in let size = c.self.inside.inner.size in
    let same : n ≡ size = admitted-size (over_most n) n size c.in_ok-check_size.ensures in
    let it = served _ _ c.self.view_is c.alloc.new.self told.chunks n c.in_ok-name.name c.args.bytes.now c.in_ok-check_size.ensures same
    told.added told.lies told.taken told.grown in
    search (rules, adding, it.admitted, it.added, it.block, it.lies, it.space, it.grown)

pub invariant_of-self-2 : goal.invariant_of-self-2
invariant_of-self-2 c = record {
  chunks = c.in_ok-name.ensures.chunks;
  sizes = subst (λ (s : SlabState). Every (λ (p : ChunkContents). length p.bytes ≡ s.size) s.chunks) (sym c.in_ok-name.ensures.taken) (
    admitted-size (over_most (length c.args.bytes.now)) (length c.args.bytes.now) c.self.inside.inner.size c.in_ok-check_size.ensures,
    c.self.invariant.sizes,
  );
}

pub invariant_of-self : goal.invariant_of-self
invariant_of-self c =
    let told = c.in_err-name.ensures in
    record {
      chunks = told.chunks;
      sizes = subst (λ (s : SlabState). Every (λ (p : ChunkContents). length p.bytes ≡ s.size) s.chunks)
          (sym told.refused.0) c.self.invariant.sizes;
    }

pub alloc-requires : goal.alloc-requires
alloc-requires c = grind (arith, nat_tests, common_steps)
