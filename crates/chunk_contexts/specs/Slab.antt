-- The rules of space of a `Slab`: chunks of one size, in blocks of 8,192 bytes or of one chunk if that is larger. A block is
-- taken only where none has a free chunk, and is freed as soon as all its chunks are free. (The rules are our own: in
-- PostgreSQL 17, src/backend/utils/mmgr/slab.c, up to ten empty blocks are kept.)
use Rattle.std.specs.Prelude.{◌≡◌, ℕ, ◌+◌, ◌*◌, ◌/◌, ◌≤◌, ◌==◌, ◌&&◌, ◌||◌, max, nat_lt, Bool, true, false, cond, List, [], ◌∷◌, Option}
use Rattle.std.specs.Prelude.{Some, None, replicate, length, get_or, slice_set, is_some, IsTrue}
use Rattle.chunk_layout.specs.Every.{Every}
use Rattle.chunk_layout.specs.Contents.{Layout, ChunkContents, without, with_block, rewritten, size_at}
use Rattle.chunk_layout.specs.declared.blocks.TheConstants.{HEADER}
use Rattle.chunk_layout.specs.declared.place.Place.{Place}
use Rattle.chunk_contexts.specs.Chunks.{live}
use Rattle.chunk_contexts.specs.Rooms.{rounded, over_most}
use Rattle.chunk_contexts.specs.Free.{by_block, first_free, AreLinked}
use Rattle.chunk_contexts.specs.Generation.{in_block}
use Rattle.chunk_contexts.specs.declared.error.ContextError.{ContextError}
use Rattle.chunk_contexts.specs.declared.error.ContextError.TheVariants.{WrongSize}
use Rattle.chunk_contexts.specs.declared.slab_chunks.SlabBlock.{SlabBlock}
use Rattle.chunk_contexts.specs.declared.slab_chunks.SlabChunks.{SlabChunks}
use Rattle.chunk_contexts.specs.declared.rooms.TheConstants.{BLOCK, MOST}

-- the size of a block for chunks of this room, and how many chunks it has
abbrev pub slab_block : ℕ → ℕ
slab_block room = max BLOCK (HEADER + room)

unfoldable pub per_block : ℕ → ℕ
per_block room = slab_block room / (HEADER + room)

-- the size of its chunks; its live chunks, the newest first; and the size of each block by its number
pub record SlabState : Type 0 where
  pub size : ℕ
  pub chunks : List ChunkContents
  pub blocks : List (Option ℕ)

abbrev pub new_slab : ℕ → SlabState
new_slab size = record { size = size; chunks = []; blocks = [] }

-- why a request is refused
abbrev pub slab_refusal_by : Option ContextError → Bool → Option ContextError
slab_refusal_by (Some refusal) same = Some refusal
slab_refusal_by None true = None
slab_refusal_by None false = Some WrongSize

abbrev pub slab_refusal : SlabState → ℕ → Option ContextError
slab_refusal s n = slab_refusal_by (over_most n) (n == s.size)

-- whether one of the blocks has a free chunk, the first of them having this number
abbrev pub spare_from : ℕ → List ChunkContents → ℕ → List (Option ℕ) → Bool
spare_from per chunks block [] = false
spare_from per chunks block (b ∷ bs) = (is_some b && nat_lt (in_block chunks block) per) || spare_from per chunks (block + 1) bs

abbrev pub has_spare : SlabState → Bool
has_spare s = spare_from (per_block (rounded s.size)) s.chunks 0 s.blocks

-- how many blocks there are
abbrev pub block_count : List (Option ℕ) → ℕ
block_count [] = 0
block_count (b ∷ bs) = cond (is_some b) (block_count bs + 1) (block_count bs)

-- how many bytes of blocks one more chunk takes, and a request of n bytes
abbrev pub slab_grows : SlabState → ℕ
slab_grows s = cond (has_spare s) 0 (slab_block (rounded s.size))

abbrev pub slab_growth : SlabState → ℕ → ℕ
slab_growth s n = cond (is_some (slab_refusal s n)) 0 (slab_grows s)

-- with a chunk, in a block that has a free one, else in a new block
abbrev pub slab_taken : SlabState → ChunkContents → SlabState
slab_taken s p = record {
  size = s.size;
  chunks = p
      ∷ s.chunks;
  blocks = cond (has_spare s) s.blocks (with_block s.blocks p.place.block (slab_block (rounded s.size)));
}

-- with other bytes in the chunk at a place, as many as there were
abbrev pub slab_wrote : SlabState → Place → List ℕ → SlabState
slab_wrote s place bytes = record { size = s.size; chunks = rewritten s.chunks place bytes; blocks = s.blocks }

-- without a chunk: if it was the last of its block, without the block
abbrev pub slab_freed : SlabState → Place → SlabState
slab_freed s place = record {
  size = s.size;
  chunks = without s.chunks place;
  blocks = cond (in_block (without s.chunks place) place.block == 0) (slice_set s.blocks place.block None) s.blocks;
}

-- without any chunk or block
abbrev pub slab_reset : SlabState → SlabState
slab_reset s = record { size = s.size; chunks = []; blocks = replicate (length s.blocks) None }

-- ---- the fields
abbrev pub slab_of : SlabChunks → SlabState
slab_of s = record { size = s.size; chunks = live s.layout.contents; blocks = s.layout.blocks }

-- chunks of one size, cut from blocks one after the other
pub record IsSlabLayout (size : ℕ) (l : Layout) : Type 0 where
  pub links : AreLinked by_block l
  pub rooms : Every (λ p. p.room ≡ rounded size) l.contents
  pub there : Every (λ p. IsTrue (is_some (get_or l.blocks p.place.block None))) l.contents
  pub sizes : (block : ℕ) → IsTrue (is_some (get_or l.blocks block None)) → size_at l.blocks block ≡ slab_block (rounded size)
  pub ends : Every (λ p. p.place.offset + p.room ≤ in_block l.contents p.place.block * (HEADER + rounded size)) l.contents

-- what is kept of a block: its first free chunk, how many chunks were cut from it, and how many of these are live
pub record IsEntry (ps : List ChunkContents) (block : ℕ) (e : SlabBlock) : Type 0 where
  pub free : e.free ≡ first_free by_block block ps
  pub cut : e.cut ≡ in_block ps block
  pub live : e.live ≡ in_block (live ps) block

abbrev pub no_block : SlabBlock
no_block = record { free = None; cut = 0; live = 0 }

-- what is kept of each block; and the blocks with a free chunk are marked
pub record IsSlab (size count : ℕ) (l : Layout) (kept : List SlabBlock) (marked : List Bool) : Type 0 where
  pub small : size ≤ MOST
  pub per : count ≡ per_block (rounded size)
  pub layout : IsSlabLayout size l
  pub entries : (block : ℕ) → IsEntry l.contents block (get_or kept block no_block)
  pub few : (block : ℕ) → (get_or kept block no_block).live ≤ count
  pub long : length l.blocks ≤ length kept
  pub long_marks : length l.blocks ≤ length marked
  pub marks : (block : ℕ) → get_or marked block false
      ≡ (is_some (get_or l.blocks block None) && nat_lt (get_or kept block no_block).live count)

abbrev pub AreChunks : SlabChunks → Type 0
AreChunks s = IsSlab s.size s.per s.layout s.blocks.items s.spare
