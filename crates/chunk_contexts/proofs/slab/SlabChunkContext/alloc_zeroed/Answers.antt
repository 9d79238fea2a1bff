use Rattle.std.proofs.Common.{◌≡◌, length, sym, ap, ◌∙◌, subst, rules}
use Rattle.chunk_contexts.proofs.Words.{zeros, Every, ChunkContents, live, chunk_of, Adds, over_most, rounded}
use Rattle.chunk_contexts.proofs.Laws.{always_err, length-zeros}
use Rattle.chunk_contexts.specs.Slab.{SlabState, slab_of, slab_taken}
use Rattle.chunk_contexts.proofs.Content.{adding}
use Rattle.chunk_contexts.proofs.SlabViews.{admitted-size, refused-size, refused-memory, served}
use Rattle.chunk_contexts.proofs.slab.SlabChunkContext.alloc_zeroed.Goals as goal

pub invariant_of-self-2 : goal.invariant_of-self-2
invariant_of-self-2 c = record {
  chunks = c.in_ok-name.ensures.chunks;
  sizes = subst (λ (s : SlabState). Every (λ (p : ChunkContents). length p.bytes ≡ s.size) s.chunks) (sym c.in_ok-name.ensures.taken)
      (length-zeros c.self.inside.inner.size, c.self.invariant.sizes);
}

pub returns-in_err-check_size-clause-refused : goal.returns-in_err-check_size-clause-refused
returns-in_err-check_size-clause-refused c = refused-size _ _ _ c.self.view_is c.args.n _ c.from_residual.ensures.1
    c.in_err-check_size.ensures

pub returns-in_err-name-clause-refused : goal.returns-in_err-name-clause-refused
returns-in_err-name-clause-refused c = refused-memory _ _ _ c.self.view_is c.args.n c.from_residual-in_err-name.ensures.1
    c.in_ok-check_size.ensures c.in_err-name.ensures.refused.1

pub returns-in_err-name-clause-unchanged : goal.returns-in_err-name-clause-unchanged
returns-in_err-name-clause-unchanged c = always_err c.from_residual-in_err-name.result (c.in_err-name.ensures.refused.0 ∙ c.self.view_is)

pub returns : goal.returns
returns c =
    let told = c.in_ok-name.ensures in let n = c.args.n in let s = c.self.inside.inner in let name = c.in_ok-name.name in let after =
    c.alloc_zeroed.new.self in
    let same : n ≡ s.size = admitted-size (over_most n) n s.size c.in_ok-check_size.ensures in
    let added = subst (λ m. Adds (live s.layout.contents) (live after.layout.contents) name (rounded s.size) (zeros m))
    (sym same) told.added in
    let taken = told.taken ∙ ap (λ m. slab_taken (slab_of s) (chunk_of name (rounded s.size) (zeros m))) (sym same) in
    let it = served _ _ c.self.view_is after told.chunks n name (zeros n) c.in_ok-check_size.ensures same added told.lies taken told.grown
    in
    let long = length-zeros n in
    search (rules, adding, it.admitted, it.added, it.block, it.lies, it.space, it.grown, long)

pub invariant_of-self : goal.invariant_of-self
invariant_of-self c =
    let told = c.in_err-name.ensures in
    record {
      chunks = told.chunks;
      sizes = subst (λ (s : SlabState). Every (λ (p : ChunkContents). length p.bytes ≡ s.size) s.chunks)
          (sym told.refused.0) c.self.invariant.sizes;
    }
