-- The chunks that the events of a layout describe, and what the blocks hold for them. All of this is our own.
use Rattle.std.specs.Prelude.{◌≡◌, ◌≢◌, if◌then◌else◌, false, ℕ, ◌+◌, ◌-◌, ◌≤◌, ◌==◌, ◌⊎◌, Bool, not, List, [], ◌∷◌, Option, Some, None}
use Rattle.std.specs.Prelude.{length, get_or, slice_set, map, unwrap_or, option_map, is_some, take, drop, IsTrue}
use Rattle.std.specs.List.{filter, list_any}
use Rattle.block_memory.specs.Cells.{Cells, Holds, IsWritten, with_bytes}
use Rattle.block_memory.specs.Words.{word_bytes}
use Rattle.chunk_layout.specs.Every.{Every, Pairwise, first_by}
use Rattle.chunk_layout.specs.Contents.{ChunkContents, same_place}
use Rattle.chunk_layout.specs.declared.blocks.TheConstants.{HEADER}
use Rattle.chunk_layout.specs.declared.place.Place.{Place}
use Rattle.chunk_layout.specs.declared.place.ChunkHeader.{ChunkHeader}
use Rattle.chunk_layout.specs.declared.place.ChunkEvent.{ChunkEvent}
use Rattle.chunk_layout.specs.declared.place.ChunkEvent.TheVariants.{Chunk, Written, Gone, Returned, Cleared}

abbrev pub Blocks : Type 0
Blocks = List (Option Cells)

-- the cells of a block
abbrev pub cells_of : Option Cells → Cells
cells_of b = unwrap_or b []

abbrev pub block_at : Blocks → ℕ → Cells
block_at bs block = cells_of (get_or bs block None)

-- the blocks after bytes were written to one, from `at` on
abbrev pub poke : Blocks → ℕ → ℕ → List ℕ → Blocks
poke bs block at bytes = slice_set bs block (Some (with_bytes (block_at bs block) at bytes))

-- the blocks after the header of a chunk was written, where chunks have one
abbrev pub headed : ℕ → Blocks → Place → ℕ → Blocks
headed head bs place room = if head == HEADER then poke bs place.block (place.offset - HEADER) (word_bytes room) else bs

-- ---- the headers that the events tell of
abbrev pub header_is_at : Place → ChunkHeader → Bool
header_is_at place s = same_place s.place place

abbrev pub no_header : ChunkHeader
no_header = record { place = record { block = 0; offset = 0 }; room = 0; len = 0; is_live = false }

abbrev pub has_header : List ChunkHeader → Place → Bool
has_header ss place = list_any (header_is_at place) ss

abbrev pub header_at : List ChunkHeader → Place → ChunkHeader
header_at ss place = first_by (header_is_at place) no_header ss

abbrev pub without_header : List ChunkHeader → Place → List ChunkHeader
without_header ss place = filter (λ s. not (header_is_at place s)) ss

-- the header of the chunk at a place, with this many bytes, live or not
abbrev pub header_with : List ChunkHeader → Place → ℕ → Bool → ChunkHeader
header_with ss place len live = record { place = place; room = (header_at ss place).room; len = len; is_live = live }

abbrev pub after_event : ChunkEvent → List ChunkHeader → List ChunkHeader
after_event (Chunk s) ss = s ∷ without_header ss s.place
after_event (Written place len live) ss = header_with ss place len live ∷ without_header ss place
after_event (Gone place) ss = without_header ss place
after_event (Returned block) ss = filter (λ s. not (s.place.block == block)) ss
after_event Cleared ss = []

abbrev pub headers_of : List ChunkEvent → List ChunkHeader
headers_of [] = []
headers_of (event ∷ events) = after_event event (headers_of events)

-- ---- the contents of the chunks that they are of
-- the bytes of n cells, where these were written
abbrev pub read : Cells → ℕ → ℕ → List ℕ
read cells at n = map (λ c. unwrap_or c 0) (take n (drop at cells))

abbrev pub contents_of : Blocks → ChunkHeader → ChunkContents
contents_of bs s = record {
  place = s.place;
  room = s.room;
  is_live = s.is_live;
  bytes = read (block_at bs s.place.block) s.place.offset s.len;
}

abbrev pub sizes_of : Blocks → List (Option ℕ)
sizes_of bs = map (option_map length) bs

-- ---- what holds of them
-- a chunk lies in a block, its bytes were written, and its header has its room
pub record Stands (head : ℕ) (bs : Blocks) (s : ChunkHeader) : Type 0 where
  pub there : IsTrue (is_some (get_or bs s.place.block None))
  pub after : head ≤ s.place.offset
  pub inside : s.place.offset + s.room ≤ length (block_at bs s.place.block)
  pub fits : s.len ≤ s.room
  pub written : IsWritten (block_at bs s.place.block) s.place.offset s.len
  pub header : head ≡ HEADER → Holds (block_at bs s.place.block) (s.place.offset - HEADER) (word_bytes s.room)

-- no byte of a chunk, header included, is one of the other's
abbrev pub Apart : ℕ → ChunkHeader → ChunkHeader → Type 0
Apart head s t = (s.place.block ≢ t.place.block) ⊎ ((s.place.offset + s.room + head ≤ t.place.offset)
    ⊎ (t.place.offset + t.room + head ≤ s.place.offset))

pub record IsLayout (head : ℕ) (bs : Blocks) (ss : List ChunkHeader) : Type 0 where
  pub header : (head ≡ 0) ⊎ (head ≡ HEADER)
  pub stand : Every (Stands head bs) ss
  pub apart : Pairwise (Apart head) ss
