-- The state of a slab after a chunk is taken.
use Rattle.std.proofs.Common.{◌≡◌, ℕ, ◌+◌, true, false, List, [], ◌∷◌, None, length, get_or, refl, sym, ap, ◌∙◌, arith}
use Rattle.chunk_contexts.proofs.Words.{Layout, ChunkContents, has, contents_at, put_at, total, with_block, Place, ChunkName, live}
use Rattle.chunk_contexts.proofs.Words.{chunk_of}
use Rattle.chunk_contexts.proofs.Words.{Adds, rounded}
use Rattle.chunk_contexts.proofs.Laws.{cond-true, cond-false, place-same, total-with_block, has-first, without-none, nat_tests}
use Rattle.chunk_contexts.proofs.Laws.{common_steps}
use Rattle.chunk_contexts.specs.Slab.{SlabState, slab_block, has_spare, slab_grows, slab_taken, slab_of, AreChunks, IsSlab}
use Rattle.chunk_contexts.specs.declared.slab_chunks.SlabChunks.{SlabChunks}
use Rattle.chunk_contexts.proofs.FreeLaws.{live-without}
use Rattle.chunk_contexts.proofs.SlabMoves.{live-there, live-room, slab-written}

-- a chunk comes from a block that has a free one
module _ (s : SlabState) (p : ChunkContents) (spare : has_spare s ≡ true) where
  pub taken-spare : (t : SlabState) → t ≡ record { size = s.size; chunks = p ∷ s.chunks; blocks = s.blocks } → t ≡ slab_taken s p
  taken-spare t made = made
      ∙ (λ i. record {
        size = s.size;
        chunks = p
            ∷ s.chunks;
        blocks = sym (cond-true (has_spare s) s.blocks (with_block s.blocks p.place.block (slab_block (rounded s.size))) spare) i;
      })

  pub grows-none : slab_grows s ≡ 0
  grows-none = cond-true (has_spare s) 0 (slab_block (rounded s.size)) spare

-- a chunk comes from a new block
module _ (s : SlabState) (spare : has_spare s ≡ false) where
  pub grows-block : slab_grows s ≡ slab_block (rounded s.size)
  grows-block = cond-false (has_spare s) 0 (slab_block (rounded s.size)) spare

  module _ (g t : SlabState) (b : ℕ) (grown : g
      ≡ record { size = s.size; chunks = s.chunks; blocks = with_block s.blocks b (slab_block (rounded s.size)) }) (place : Place)
      (in-block : place.block ≡ b)
      (made : t ≡ record {
        size = g.size;
        chunks = (record { place = place; room = rounded g.size; is_live = true; bytes = [] })
            ∷ g.chunks;
        blocks = g.blocks;
      }) where
    abbrev new-chunk : ChunkContents
    new-chunk = record { place = place; room = rounded s.size; is_live = true; bytes = [] }

    pub taken-new : t ≡ slab_taken s new-chunk
    taken-new = grind (arith, nat_tests, common_steps)

    pub grown-total : get_or s.blocks b None ≡ None → total t.blocks ≡ total s.blocks + slab_grows s
    grown-total none = grind (arith, nat_tests, common_steps, total-with_block s.blocks b (slab_block (rounded s.size)) none)

-- a slab with one chunk more, which holds these bytes
pub record Written (s : SlabState) (t : SlabChunks) (name : ChunkName) (bytes : List ℕ) : Type 0 where
  pub chunks : AreChunks t
  pub added : Adds s.chunks (slab_of t).chunks name (rounded s.size) bytes
  pub taken : slab_of t ≡ slab_taken s (chunk_of name (rounded s.size) bytes)

-- the bytes of a chunk that was made are written
module _ (s : SlabState) (t : SlabChunks) (is : IsSlab t.size t.per t.layout t.blocks.items t.spare) (place : Place)
    (fresh : has s.chunks place ≡ false)
    (taken : slab_of t ≡ slab_taken s (record { place = place; room = rounded s.size; is_live = true; bytes = [] })) where
  abbrev p : ChunkContents
  p = record { place = place; room = rounded s.size; is_live = true; bytes = [] }

  chunks : live t.layout.contents ≡ p ∷ s.chunks
  chunks = ap (λ (z : SlabState). z.chunks) taken

  made-here : has (live t.layout.contents) place ≡ true
  made-here = ap (λ (cs : List ChunkContents). has cs place) chunks ∙ has-first p s.chunks place (place-same place)

  pub made-there : has t.layout.contents place ≡ true
  made-there = live-there t.size t.per t.layout t.blocks.items t.spare is place made-here

  pub made-size : t.size ≡ s.size
  made-size = ap (λ (z : SlabState). z.size) taken

  pub made-room : (contents_at t.layout.contents place).room ≡ rounded s.size
  made-room = live-room t.size t.per t.layout t.blocks.items t.spare is place made-here ∙ ap rounded made-size

  module _ (bytes : List ℕ) (m : Layout) (put : m ≡ put_at t.layout place 0 bytes true) (name : ChunkName) (named : name
      ≡ record { block = place.block; offset = place.offset; len = length bytes }) where
    abbrev q : ChunkContents
    q = chunk_of name (rounded s.size) bytes

    written-chunks : live m.contents ≡ q ∷ s.chunks
    written-chunks = grind (
      arith,
      nat_tests,
      common_steps,
      made-room,
      live-without t.layout.contents place,
      without-none s.chunks place
          fresh,
    )

    written-state : (u : SlabState) → u ≡ record { size = t.size; chunks = live m.contents; blocks = m.blocks } → u ≡ slab_taken s q
    written-state u is-u = grind (arith, nat_tests, common_steps, written-chunks)

    written-added : Adds s.chunks (live m.contents) name (rounded s.size) bytes
    written-added = grind (arith, nat_tests, common_steps, written-chunks)

    -- all of it
    pub written : Written s (record { layout = m; blocks = t.blocks; spare = t.spare; size = t.size; per = t.per }) name bytes
    written = record {
      chunks = slab-written t.size t.per t.layout t.blocks.items t.spare is place made-here bytes 0 m put;
      added = written-added;
      taken = written-state _ refl;
    }
