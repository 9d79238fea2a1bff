-- What is true of the fields of an `AllocSet`.
use Rattle.std.specs.Prelude.{◌≡◌, ◌≢◌, ℕ, ◌+◌, ◌-◌, ◌^◌, ◌<◌, ◌≤◌, ◌⊎◌, true, List, Option, Some, None, get_or, is_some, IsTrue}
use Rattle.chunk_layout.specs.Every.{Every, Pairwise}
use Rattle.chunk_layout.specs.Contents.{Layout, ChunkContents, size_at}
use Rattle.chunk_layout.specs.declared.place.Place.{Place}
use Rattle.chunk_contexts.specs.Chunks.{live}
use Rattle.chunk_contexts.specs.Rooms.{rooms}
use Rattle.chunk_contexts.specs.Free.{is_in, free_rooms, AreLists}
use Rattle.chunk_contexts.specs.Set.{SetState}
use Rattle.chunk_contexts.specs.declared.alloc_set.AllocSet.TheInside.{Inside}
use Rattle.chunk_contexts.specs.declared.active.Active.{Active}
use Rattle.chunk_contexts.specs.declared.rooms.TheConstants.{BLOCK, LARGEST, LARGEST_BLOCK}

abbrev pub set_of : Inside → SetState
set_of s = record {
  chunks = live s.lists.layout.contents;
  blocks = s.lists.layout.blocks;
  free = free_rooms s.lists.layout.contents;
  left =
      s.active.size - s.active.used;
  next = s.next;
  first = s.first;
}

-- a chunk of a set. Its block is there, and if that is the block in use, the chunk lies in the used part. It has the
-- room of a class; or it is live and larger, and its block is neither the one in use nor the first
pub record IsSetChunk (blocks : List (Option ℕ)) (active : Active) (first : Option ℕ) (p : ChunkContents) : Type 0 where
  pub there : IsTrue (is_some (get_or blocks p.place.block None))
  pub used : 0 < active.size → p.place.block ≡ active.block → p.place.offset + p.room ≤ active.used
  pub small : p.room ≤ LARGEST → IsTrue (is_in p.room rooms)
  pub large : LARGEST < p.room → (p.is_live ≡ true) × ((0 < active.size → p.place.block ≢ active.block) × (first ≢ Some p.place.block))

-- a larger chunk has its block for itself
abbrev pub Alone : ChunkContents → ChunkContents → Type 0
Alone p q = ((LARGEST < p.room) ⊎ (LARGEST < q.room)) → p.place.block ≢ q.place.block

pub record IsSet (l : Layout) (heads : List (Option Place)) (active : Active) (first : Option ℕ) : Type 0 where
  pub lists : AreLists l heads
  pub alone : Pairwise Alone l.contents
  pub good : Every (IsSetChunk l.blocks active first) l.contents
  pub size : 0 < active.size → active.size ≡ size_at l.blocks active.block
  pub used : active.used ≤ active.size
  pub bound : active.size ≤ LARGEST_BLOCK
  pub block : active.block < 2 ^ 32
  pub start : (block : ℕ) → first ≡ Some block → (IsTrue (is_some (get_or l.blocks block None))) × (size_at l.blocks block ≤ LARGEST_BLOCK)

pub record AreFields (s : Inside) : Type 0 where
  pub set : IsSet s.lists.layout s.lists.heads s.active s.first
  pub next : (BLOCK ≤ s.next) × (s.next ≤ LARGEST_BLOCK)
