-- The free chunks of a layout, and the lists that link them. All of this is our own.
use Rattle.std.specs.Prelude.{◌≡◌, ℕ, ◌+◌, ◌≤◌, ◌==◌, ◌&&◌, not, Bool, true, false, cond, List, [], ◌∷◌, Option, Some, None, nat_le, ◌-◌}
use Rattle.std.specs.Prelude.{length}
use Rattle.std.specs.Prelude.{◌^◌, ◌<◌, get_or}
use Rattle.chunk_layout.specs.Every.{Every, Pairwise}
use Rattle.chunk_layout.specs.Contents.{Layout, ChunkContents, same_place, size_at}
use Rattle.chunk_layout.specs.declared.blocks.TheConstants.{HEADER}
use Rattle.chunk_contexts.specs.declared.active.Active.{Active}
use Rattle.chunk_contexts.specs.Rooms.{room_of}
use Rattle.chunk_layout.specs.declared.place.Place.{Place}
use Rattle.chunk_layout.specs.Links.{link_bytes, IsLinkable}
use Rattle.chunk_contexts.specs.declared.rooms.TheConstants.{CLASSES, LARGEST_BLOCK}

-- free chunks are kept in lists by a number that a chunk has by its place and room: its room, or its block
abbrev pub by_room : Place → ℕ → ℕ
by_room place room = room

abbrev pub by_block : Place → ℕ → ℕ
by_block place room = place.block

-- a chunk is free and in the list of this number
abbrev pub is_free : (Place → ℕ → ℕ) → ℕ → ChunkContents → Bool
is_free key k p = not p.is_live && (key p.place p.room == k)

-- the rooms of the free chunks, the last one that was freed first
abbrev pub free_rooms : List ChunkContents → List ℕ
free_rooms [] = []
free_rooms (p ∷ ps) = cond p.is_live (free_rooms ps) (p.room ∷ free_rooms ps)

-- the first free chunk of a list
abbrev pub first_free : (Place → ℕ → ℕ) → ℕ → List ChunkContents → Option Place
first_free key k [] = None
first_free key k (p ∷ ps) = cond (is_free key k p) (Some p.place) (first_free key k ps)

-- whether a number is in a list, and the list without its first
abbrev pub is_in : ℕ → List ℕ → Bool
is_in n [] = false
is_in n (x ∷ xs) = cond (x == n) true (is_in n xs)

abbrev pub minus : ℕ → List ℕ → List ℕ
minus n [] = []
minus n (x ∷ xs) = cond (x == n) xs (x ∷ minus n xs)

-- each free chunk names the next one of its list
abbrev pub Linked : (Place → ℕ → ℕ) → List ChunkContents → Type 0
Linked key [] = Unit {0}
Linked key (p ∷ ps) = (p.is_live ≡ false → p.bytes ≡ link_bytes (first_free key (key p.place p.room) ps)) × Linked key ps

-- what is left of a block of this many bytes is cut into free chunks, in front of the others: for each room in turn one, if it fits with
-- its header
abbrev pub cut_used : ℕ → ℕ → ℕ → ℕ
cut_used room used size = cond (nat_le (room + HEADER) (size - used)) (used + HEADER + room) used

abbrev pub cut_chunk : ℕ → ℕ → ℕ → ℕ → List ChunkContents → List ChunkContents
cut_chunk room block used size ps =
    cond (nat_le (room + HEADER) (size - used))
    ((record {
      place = record { block = block; offset = used + HEADER };
      room = room;
      is_live = false;
      bytes = link_bytes
          (first_free by_room room ps);
    }) ∷ ps) ps

abbrev pub cut_chunks : List ℕ → ℕ → ℕ → ℕ → List ChunkContents → List ChunkContents
cut_chunks [] block used size ps = ps
cut_chunks (room ∷ rooms) block used size ps = cut_chunks rooms block (cut_used room used size) size (cut_chunk room block used size ps)

-- two chunks are at different places
abbrev pub Elsewhere : ChunkContents → ChunkContents → Type 0
Elsewhere p q = same_place p.place q.place ≡ false

-- chunks with headers, of which each free one names the next of its list
pub record AreLinked (key : Place → ℕ → ℕ) (l : Layout) : Type 0 where
  pub head : l.head ≡ HEADER
  pub places : Pairwise Elsewhere l.contents
  pub ranges : Every (λ p. IsLinkable p.place) l.contents
  pub linked : Linked key l.contents

-- the free lists of a layout by rooms: what each list has first, by its class
pub record AreLists (l : Layout) (heads : List (Option Place)) : Type 0 where
  pub links : AreLinked by_room l
  pub count : length heads ≡ CLASSES
  pub firsts : (class : ℕ) → class < CLASSES → get_or heads class None ≡ first_free by_room (room_of class) l.contents

-- no chunk lies in what is left of a block
pub record IsRest (l : Layout) (active : Active) : Type 0 where
  pub size : 0 < active.size → active.size ≡ size_at l.blocks active.block
  pub used : active.used ≤ active.size
  pub bound : active.size ≤ LARGEST_BLOCK
  pub block : active.block < 2 ^ 32
  pub clear : Every (λ p. 0 < active.size → p.place.block ≡ active.block → p.place.offset + p.room ≤ active.used) l.contents
  pub rooms : Every (λ p. 1 ≤ p.room) l.contents
