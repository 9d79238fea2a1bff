use Rattle.std.proofs.Common.{◌≡◌, ◌*◌, ◌≤◌, ℕ, None, length, get_or, subst, arith}
use Rattle.chunk_contexts.proofs.Words.{IsTrue, is_some, nat_lt, Every, ChunkContents, live, rounded}
use Rattle.chunk_contexts.proofs.Laws.{every_filter}
use Rattle.chunk_contexts.specs.Generation.{in_block}
use Rattle.chunk_contexts.specs.Slab.{SlabState, has_spare, per_block, block_count}
use Rattle.chunk_contexts.proofs.SlabCounts.{spare-by-count, none-there}
use Rattle.chunk_contexts.proofs.slab.Slab.spare_by_count.Goals as goal

pub returns : goal.returns
returns c =
    let t = c.self.inside.inner in let is = c.self.invariant.chunks in let ps = live t.layout.contents in let bs = t.layout.blocks in
    let there : Every (λ (p : ChunkContents). IsTrue (is_some (get_or bs p.place.block None))) ps = every_filter _
    (λ (p : ChunkContents). p.is_live) t.layout.contents is.layout.there in
    let few : (k : ℕ) → in_block ps k ≤ per_block (rounded t.size) = λ k. omega (arith, is.few k, (is.entries k).live, is.per) in
    subst (λ (s : SlabState). has_spare s ≡ nat_lt (length s.chunks) (per_block (rounded s.size) * block_count s.blocks)) c.self.view_is
    (spare-by-count (per_block (rounded t.size)) ps few bs there (none-there ps bs there))
