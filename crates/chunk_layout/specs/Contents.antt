-- A layout as its users see it: the sizes of its blocks, and the chunks that lie in them. All of this is our own.
use Rattle.std.specs.Prelude.{◌≡◌, ◌≢◌, ◌<◌, true, is_some, ℕ, zero, suc, ◌+◌, ◌≤◌, ◌==◌, ◌&&◌, ◌⊎◌, Bool, false, not, List, [], ◌∷◌, ◌++◌}
use Rattle.std.specs.Prelude.{Option, Some, None}
use Rattle.std.specs.Prelude.{if◌then◌else◌, ◌-◌, length, get_or, slice_set, replicate, unwrap_or, take}
use Rattle.std.specs.Int.{w32, to_be_bytes}
use Rattle.std.specs.List.{filter, list_any, refill}
use Rattle.block_memory.specs.Cells.{zeros}
use Rattle.chunk_layout.specs.Every.{Every, Pairwise, first_by}
use Rattle.chunk_layout.specs.declared.place.Place.{Place}
use Rattle.chunk_layout.specs.declared.place.ChunkName.{ChunkName}

-- a chunk: where its bytes begin, how many it has room for, whether somebody has its name, and what was written to it
pub record ChunkContents : Type 0 where
  pub place : Place
  pub room : ℕ
  pub is_live : Bool
  pub bytes : List ℕ

abbrev pub same_place : Place → Place → Bool
same_place p q = (p.block == q.block) && (p.offset == q.offset)

-- where the chunk of a name begins
abbrev pub place_of : ChunkName → Place
place_of name = record { block = name.block; offset = name.offset }

-- the bytes of a name
abbrev pub name_bytes : ChunkName → List ℕ
name_bytes name = to_be_bytes w32 name.block ++ to_be_bytes w32 name.offset ++ to_be_bytes w32 name.len

abbrev pub is_at : Place → ChunkContents → Bool
is_at place p = same_place p.place place

-- whether there is a chunk at a place, and which
abbrev pub has : List ChunkContents → Place → Bool
has ps place = list_any (is_at place) ps

abbrev pub no_contents : ChunkContents
no_contents = record { place = record { block = 0; offset = 0 }; room = 0; is_live = false; bytes = [] }

abbrev pub contents_at : List ChunkContents → Place → ChunkContents
contents_at ps place = first_by (is_at place) no_contents ps

-- the chunks without the one at a place, and without those of a block
abbrev pub without : List ChunkContents → Place → List ChunkContents
without ps place = filter (λ p. not (is_at place p)) ps

abbrev pub outside : List ChunkContents → ℕ → List ChunkContents
outside ps block = filter (λ p. not (p.place.block == block)) ps

-- a chunk with other bytes, as many as it had
abbrev pub with_bytes_of : ChunkContents → List ℕ → ChunkContents
with_bytes_of p bytes = record { place = p.place; room = p.room; is_live = p.is_live; bytes = refill (length p.bytes) p.bytes bytes }

-- the chunks where the bytes of the one at a place were written over
abbrev pub rewritten : List ChunkContents → Place → List ℕ → List ChunkContents
rewritten [] place bytes = []
rewritten (p ∷ ps) place bytes = if is_at place p then with_bytes_of p bytes ∷ ps else p ∷ rewritten ps place bytes

-- n bytes that begin as the others do, with zeros after these
abbrev pub resized : List ℕ → ℕ → List ℕ
resized bytes n = take n bytes ++ zeros (n - length bytes)

-- how many bytes there are before each chunk for its header; the size of each block by its number, None where there is
-- none; and the chunks, the last one that was made, written or freed first
pub record Layout : Type 0 where
  pub head : ℕ
  pub blocks : List (Option ℕ)
  pub contents : List ChunkContents

-- the size of a block, and 0 where there is none
abbrev pub size_at : List (Option ℕ) → ℕ → ℕ
size_at blocks block = unwrap_or (get_or blocks block None) 0

-- the bytes of all blocks
abbrev pub total : List (Option ℕ) → ℕ
total [] = 0
total (b ∷ bs) = unwrap_or b 0 + total bs

-- the blocks with one more, at a number that is free
abbrev pub with_block : {X : Type 0} → List (Option X) → ℕ → X → List (Option X)
with_block [] block x = Some x ∷ []
with_block (b ∷ bs) zero x = Some x ∷ bs
with_block (b ∷ bs) (suc block) x = b ∷ with_block bs block x

-- no byte of a chunk is one of the other's
abbrev pub AreApart : ChunkContents → ChunkContents → Type 0
AreApart p q = (p.place.block ≢ q.place.block) ⊎ ((p.place.offset + p.room ≤ q.place.offset) ⊎ (q.place.offset + q.room ≤ p.place.offset))

-- a chunk has no more bytes than room, and its room lies in its block
abbrev pub IsInside : List (Option ℕ) → ChunkContents → Type 0
IsInside blocks p = (length p.bytes ≤ p.room) × (p.place.offset + p.room ≤ size_at blocks p.place.block)

-- no two chunks share a byte, and each lies in its block
pub record AreLaid (blocks : List (Option ℕ)) (chunks : List ChunkContents) : Type 0 where
  pub apart : Pairwise AreApart chunks
  pub inside : Every (IsInside blocks) chunks

-- each number has a block
abbrev pub AreTaken : List (Option ℕ) → Type 0
AreTaken blocks = (block : ℕ) → block < length blocks → is_some (get_or blocks block None) ≡ true

-- whether a block is the one that is kept
abbrev pub is_kept : Option ℕ → ℕ → Bool
is_kept None block = false
is_kept (Some kept) block = kept == block

-- the blocks of which one is kept, or none
abbrev pub only : List (Option ℕ) → Option ℕ → List (Option ℕ)
only blocks None = replicate (length blocks) None
only blocks (Some block) = slice_set (replicate (length blocks) None) block (get_or blocks block None)

-- a layout in which a chunk is the first one, whatever was at its place
abbrev pub with_contents : Layout → ChunkContents → Layout
with_contents l p = record { head = l.head; blocks = l.blocks; contents = p ∷ without l.contents p.place }

-- a chunk of so much room at a place, header included, has no byte of the other chunk, header included
abbrev pub IsClear : ℕ → Place → ℕ → ChunkContents → Type 0
IsClear head place room p = (p.place.block ≢ place.block) ⊎ ((p.place.offset + p.room + head ≤ place.offset)
    ⊎ (place.offset + room + head ≤ p.place.offset))

-- the chunk at a place with other bytes after the first ones that it keeps, live or not
abbrev pub put_at : Layout → Place → ℕ → List ℕ → Bool → Layout
put_at l place kept bytes live = with_contents l
    (record {
      place = place;
      room = (contents_at l.contents place).room;
      is_live = live;
      bytes = take kept (contents_at l.contents place).bytes
          ++ bytes;
    })
