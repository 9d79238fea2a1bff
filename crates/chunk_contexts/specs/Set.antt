-- The rules of space of an `AllocSet`.
--
-- Each chunk has 8 bytes before it. Chunks of up to 8,192 bytes have the room of a class. They lie in blocks that double in size, from
-- 8,192 bytes up to 1,048,576. One that is freed serves later requests of its class. A larger chunk has a block of its own, which goes back
-- when it is freed. (The rules are our own; that chunks have classes, that blocks double and that the first one is kept by a reset is as in
-- PostgreSQL 17, src/backend/utils/mmgr/aset.c.)
use Rattle.std.specs.Prelude.{ℕ, ◌+◌, ◌-◌, ◌*◌, nat_le, nat_lt, min, Bool, true, false, cond, if◌then◌else◌, List, [], ◌∷◌, Option, Some}
use Rattle.std.specs.Prelude.{None, slice_set, is_some}
use Rattle.chunk_layout.specs.Contents.{ChunkContents, contents_at, without, with_block, rewritten, size_at, only}
use Rattle.chunk_layout.specs.declared.blocks.TheConstants.{HEADER}
use Rattle.chunk_layout.specs.declared.place.Place.{Place}
use Rattle.chunk_contexts.specs.Rooms.{rounded, rooms_down, room_of, class_of, over_most}
use Rattle.chunk_contexts.specs.Free.{is_in, minus}
use Rattle.chunk_contexts.specs.declared.rooms.TheConstants.{BLOCK, LARGEST, LARGEST_BLOCK}

-- its live chunks, the newest first; the size of each block by its number; and the rooms of the free chunks. Then what
-- is left of the block in use; the size of the next block; and the number of the first block with chunks of the classes
pub record SetState : Type 0 where
  pub chunks : List ChunkContents
  pub blocks : List (Option ℕ)
  pub free : List ℕ
  pub left : ℕ
  pub next : ℕ
  pub first : Option ℕ

abbrev pub new_set : SetState
new_set = record { chunks = []; blocks = []; free = []; left = 0; next = BLOCK; first = None }

-- the room of a chunk of n bytes
abbrev pub set_room : ℕ → ℕ
set_room n = if nat_le n LARGEST then room_of (class_of n) else rounded n

-- the size of a new block for a chunk of this room
abbrev pub block_size : ℕ → ℕ → ℕ
block_size next room = if nat_le (room + HEADER) next then next else 2 * next

-- how many bytes of blocks a request of n bytes takes
abbrev pub growth_by : Bool → Bool → Bool → Bool → SetState → ℕ → ℕ
growth_by true is_classed is_free fits s room = 0
growth_by false false is_free fits s room = room + HEADER
growth_by false true true fits s room = 0
growth_by false true false true s room = 0
growth_by false true false false s room = block_size s.next room

abbrev pub set_growth : SetState → ℕ → ℕ
set_growth s n = growth_by (is_some (over_most n)) (nat_le n LARGEST) (is_in (set_room n) s.free) (nat_le (set_room n + HEADER) s.left) s
    (set_room n)

-- what is left of a block is cut into free chunks, the largest first
abbrev pub cut_up : List ℕ → ℕ → List ℕ → List ℕ
cut_up [] left free = free
cut_up (room ∷ rooms) left free = cut_up rooms (cond (nat_le (room + HEADER) left) (left - (room + HEADER)) left)
    (cond (nat_le (room + HEADER) left) (room ∷ free) free)

-- the first block of two
abbrev pub or_first : Option ℕ → ℕ → Option ℕ
or_first None block = Some block
or_first (Some first) block = Some first

-- with a new block of this number, of which nothing is used
abbrev pub grown : SetState → ℕ → ℕ → SetState
grown s block size = record {
  chunks = s.chunks;
  blocks = with_block s.blocks block size;
  free = cut_up rooms_down s.left s.free;
  left = size;
  next = min (2 * s.next) LARGEST_BLOCK;
  first = or_first s.first block;
}

-- with a chunk from the block in use
abbrev pub carved : SetState → ChunkContents → SetState
carved s p = record {
  chunks = p ∷ s.chunks;
  blocks = s.blocks;
  free = s.free;
  left = s.left - (p.room + HEADER);
  next = s.next;
  first =
      s.first;
}

-- with a chunk that was free
abbrev pub reused : SetState → ChunkContents → SetState
reused s p = record { chunks = p ∷ s.chunks; blocks = s.blocks; free = minus p.room s.free; left = s.left; next = s.next; first = s.first }

-- with a chunk that has a block of its own
abbrev pub dedicated : SetState → ChunkContents → SetState
dedicated s p = record {
  chunks = p ∷ s.chunks;
  blocks = with_block s.blocks p.place.block (p.room + HEADER);
  free = s.free;
  left = s.left;
  next = s.next;
  first = s.first;
}

-- with a chunk for a request: where it is of a class, a free one, else one from the block in use, else one from a new block
abbrev pub taken_by : Bool → Bool → Bool → SetState → ChunkContents → SetState
taken_by false is_free fits s p = dedicated s p
taken_by true true fits s p = reused s p
taken_by true false true s p = carved s p
taken_by true false false s p = carved (grown s p.place.block (block_size s.next p.room)) p

abbrev pub set_taken : SetState → ℕ → ChunkContents → SetState
set_taken s n p = taken_by (nat_le n LARGEST) (is_in p.room s.free) (nat_le (p.room + HEADER) s.left) s p

-- without a chunk
abbrev pub set_freed : SetState → Place → SetState
set_freed s place = let room = (contents_at s.chunks place).room in record {
  chunks = without s.chunks place;
  blocks = cond (nat_lt LARGEST room) (slice_set s.blocks place.block None) s.blocks;
  free = cond (nat_lt LARGEST room) s.free (room ∷ s.free);
  left = s.left;
  next = s.next;
  first = s.first;
}

-- with other bytes in the chunk at a place, which is then the first
abbrev pub set_put : SetState → Place → List ℕ → SetState
set_put s place bytes = record {
  chunks = (record { place = place; room = (contents_at s.chunks place).room; is_live = true; bytes = bytes }) ∷ without s.chunks place;
  blocks = s.blocks;
  free = s.free;
  left = s.left;
  next = s.next;
  first = s.first;
}

-- with other bytes in the chunk at a place, as many as there were
abbrev pub set_wrote : SetState → Place → List ℕ → SetState
set_wrote s place bytes = record {
  chunks = rewritten s.chunks place bytes;
  blocks = s.blocks;
  free = s.free;
  left = s.left;
  next = s.next;
  first = s.first;
}

-- without any chunk: the first block alone is left
abbrev pub first_size : List (Option ℕ) → Option ℕ → ℕ
first_size blocks None = 0
first_size blocks (Some first) = size_at blocks first

abbrev pub set_reset : SetState → SetState
set_reset s = record {
  chunks = [];
  blocks = only s.blocks s.first;
  free = [];
  left = first_size s.blocks s.first;
  next = if is_some s.first then 2 * BLOCK else BLOCK;
  first = s.first;
}
