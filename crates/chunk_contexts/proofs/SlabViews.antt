-- What the state of a `Slab` says of its fields at a live chunk.
use Rattle.std.proofs.Common.{◌≡◌, ℕ, ◌+◌, ◌<◌, true, List, [], ◌∷◌, Option, Some, None, Result, cond, length, get_or, refl, sym, ap, ◌∙◌}
use Rattle.std.proofs.Common.{subst, arith}
use Rattle.chunk_contexts.proofs.Words.{IsTrue, IsErrAnd, IfErr, ◌==◌, is_some, Every, ChunkContents, is_at, has, contents_at, no_contents}
use Rattle.chunk_contexts.proofs.Words.{place_of, resized, rewritten, total, with_bytes_of, Place, ChunkName, live, is_live, bytes_of}
use Rattle.chunk_contexts.proofs.Words.{chunk_of, Adds, IsNewBlock, IsRefused, IsResized, rounded, ContextError, NoMemory}
use Rattle.chunk_contexts.proofs.Laws.{by_cond, first_has, every_filter, nat_tests, common_steps}
use Rattle.std.specs.List.{length_refill}
use Rattle.block_memory.specs.Cells.{zeros}
use Rattle.chunk_contexts.specs.Slab.{SlabState, slab_refusal, slab_refusal_by, slab_grows, slab_growth, slab_taken, slab_of, AreChunks}
use Rattle.chunk_contexts.specs.SlabFields.{slab_state, AreFields}
use Rattle.chunk_contexts.specs.declared.slab_chunks.SlabChunks.{SlabChunks}
use Rattle.chunk_contexts.specs.declared.slab.Slab.TheInside.{Inside}
use Rattle.chunk_contexts.proofs.Growth.{refused-some}
use Rattle.chunk_contexts.proofs.FreeLaws.{live-found}
use Rattle.chunk_contexts.proofs.SlabMoves.{live-there, live-room}
use Rattle.chunk_contexts.proofs.Content.{name-there, name-len}

-- a request that is not refused has the size
pub admitted-size : (o : Option ContextError) (n size : ℕ) → slab_refusal_by o (n == size) ≡ None → n ≡ size
admitted-size o n size none = grind (arith, nat_tests, common_steps)

-- and takes what one more chunk takes
pub slab-grown : (s : SlabState) (n : ℕ) → slab_refusal s n ≡ None → slab_growth s n ≡ slab_grows s
slab-grown s n none = ap (λ (o : Option ContextError). cond (is_some o) 0 (slab_grows s)) none

-- as many bytes as there are
pub resized-same : (bytes : List ℕ) (n : ℕ) → length bytes ≡ n → bytes ≡ resized bytes n
unfolding zeros
resized-same bytes n long = grind (arith, nat_tests, common_steps)

-- as many bytes in each chunk, after one is written over
pub sizes-rewritten : (size : ℕ) (ps : List ChunkContents) (place : Place) (ws : List ℕ)
    → Every (λ (p : ChunkContents). length p.bytes ≡ size) ps → Every (λ (p : ChunkContents). length p.bytes ≡ size) (rewritten ps place ws)
sizes-rewritten size [] place ws every = tt
sizes-rewritten size (p ∷ ps) place ws every = by_cond (Every (λ (q : ChunkContents). length q.bytes ≡ size)) (is_at place p)
    (with_bytes_of p ws ∷ ps) (p ∷ rewritten ps place ws)
    (λ _. (sym (length_refill (length p.bytes) p.bytes ws refl) ∙ every.0, every.1))
    (λ _. (every.0, sizes-rewritten size ps place ws every.1))

-- the block of a new chunk
pub added-housed : (t : SlabChunks) (are : AreChunks t) (before : List ChunkContents) (name : ChunkName) (room : ℕ) (bytes : List ℕ)
    → Adds before (slab_of t).chunks name room bytes → IsTrue (is_some (get_or t.layout.blocks name.block None))
added-housed t are before name room bytes adds = grind (arith, nat_tests, common_steps, every_filter)

-- why it refuses
module _ {X : Type 0} (result : Result X ContextError) (s now : SlabState) (view : s ≡ now) (n : ℕ) where
  pub refused-size : (f : ContextError) → IsErrAnd result (λ e. e ≡ f) → slab_refusal s n ≡ Some f
      → IfErr result (IsRefused (slab_refusal now n) (slab_growth now n))
  refused-size f is over = refused-some result (slab_refusal now n) (slab_growth now n) f is
      (ap (λ (z : SlabState). slab_refusal z n) (sym view) ∙ over)

  pub refused-memory : IsErrAnd result (λ e. e ≡ NoMemory) → slab_refusal s n ≡ None → 0 < slab_grows s
      → IfErr result (IsRefused (slab_refusal now n) (slab_growth now n))
  refused-memory is none some = grind (arith, nat_tests, common_steps)

-- a request that was served
pub record Served (now : SlabState) (after : SlabChunks) (n : ℕ) (name : ChunkName) (bytes : List ℕ) : Type 0 where
  pub admitted : slab_refusal now n ≡ None
  pub added : Adds now.chunks (slab_of after).chunks name (rounded n) bytes
  pub block : IsTrue (is_some (get_or after.layout.blocks name.block None))
  pub lies : IsNewBlock (slab_grows now) now.blocks name.block
  pub space : slab_of after ≡ slab_taken now (chunk_of name (rounded n) bytes)
  pub grown : total (slab_of after).blocks ≡ total now.blocks + slab_growth now n

pub served : (s now : SlabState) (view : s ≡ now) (after : SlabChunks) (are : AreChunks after) (n : ℕ) (name : ChunkName) (bytes : List ℕ)
    → slab_refusal s n ≡ None → n ≡ s.size → Adds s.chunks (slab_of after).chunks name (rounded s.size) bytes
    → IsNewBlock (slab_grows s) s.blocks name.block → slab_of after ≡ slab_taken s (chunk_of name (rounded s.size) bytes)
    → total (slab_of after).blocks ≡ total s.blocks + slab_grows s → Served now after n name bytes
served s now view after are n name bytes none same added lies space grown =
    let admitted : slab_refusal now n ≡ None = ap (λ (z : SlabState). slab_refusal z n) (sym view) ∙ none in
    let adds : Adds now.chunks (slab_of after).chunks name (rounded n) bytes =
    subst (λ (z : SlabState). Adds z.chunks (slab_of after).chunks name (rounded n) bytes) view
    (subst (λ m. Adds s.chunks (slab_of after).chunks name (rounded m) bytes) (sym same) added) in
    grind (arith, nat_tests, common_steps, added-housed after are _ name (rounded n) bytes adds, slab-grown now n admitted)

module _ (x : Inside) (ok : AreFields x) (s : SlabState) (e : slab_state x ≡ s) (name : ChunkName)
    (lives : IsTrue (is_live s.chunks name)) where
  abbrev t : SlabChunks
  t = x.inner

  abbrev ps : List ChunkContents
  ps = t.layout.contents

  abbrev place : Place
  place = place_of name

  pub view-here : has (live ps) place ≡ true
  view-here = ap (λ (z : SlabState). has z.chunks place) e ∙ name-there s.chunks name lives

  pub view-there : has ps place ≡ true
  view-there = live-there t.size t.per t.layout t.blocks.items t.spare ok.chunks place view-here

  pub view-same : contents_at ps place ≡ contents_at s.chunks place
  view-same = (live-found ps place ok.chunks.layout.links.places view-here).same ∙ ap (λ (z : SlabState). contents_at z.chunks place) e

  pub view-len : length (contents_at ps place).bytes ≡ name.len
  view-len = ap (λ (p : ChunkContents). length p.bytes) view-same ∙ name-len s.chunks name lives

  pub view-size : name.len ≡ t.size
  view-size = sym (name-len s.chunks name lives) ∙ ap (λ (z : SlabState). length (contents_at z.chunks place).bytes) (sym e)
      ∙ first_has (λ (p : ChunkContents). length p.bytes ≡ t.size) (is_at place) no_contents (live ps) view-here ok.sizes

  pub view-room : (contents_at s.chunks place).room ≡ rounded t.size
  view-room = ap (λ (p : ChunkContents). p.room) (sym view-same) ∙ live-room t.size t.per t.layout t.blocks.items t.spare ok.chunks place
      view-here

  -- the size that it has
  pub view-resized : (n : ℕ) → n ≡ t.size → IsResized s.chunks s.chunks name name n
  view-resized n same = grind (
    arith,
    nat_tests,
    common_steps,
    view-size,
    resized-same (bytes_of s.chunks name) n
        (name-len s.chunks name lives ∙ view-size ∙ sym same),
  )

  -- the same at the place that was asked of the name
  module _ (at : Place) (is : at ≡ place) where
    pub asked-there : IsTrue (has ps at)
    asked-there = subst (λ (p : Place). IsTrue (has ps p)) (sym is) view-there

    pub asked-len : length (contents_at ps at).bytes ≡ name.len
    asked-len = ap (λ (p : Place). length (contents_at ps p).bytes) is ∙ view-len

    pub asked-bytes : (contents_at ps at).bytes ≡ bytes_of s.chunks name
    asked-bytes = ap (λ (p : Place). (contents_at ps p).bytes) is ∙ ap (λ (p : ChunkContents). p.bytes) view-same
