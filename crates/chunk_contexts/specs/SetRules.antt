-- The rules of space of an `AllocSet` in words: what is cut of a block, and how long a block is. That `Set` computes just this is
-- a law of `AllocSet`. All of this is our own.
use Rattle.std.specs.Prelude.{◌≡◌, ℕ, ◌+◌, ◌-◌, ◌*◌, ◌^◌, ◌<◌, ◌≤◌, List, [], ◌∷◌, ◌++◌, min, reverse, IsTrue}
use Rattle.chunk_layout.specs.Contents.{ChunkContents}
use Rattle.chunk_layout.specs.declared.blocks.TheConstants.{HEADER}
use Rattle.chunk_contexts.specs.Rooms.{rooms}
use Rattle.chunk_contexts.specs.Free.{is_in}
use Rattle.chunk_contexts.specs.Set.{SetState, set_room, set_growth, set_taken}
use Rattle.chunk_contexts.specs.declared.rooms.TheConstants.{BLOCK, LARGEST, LARGEST_BLOCK, SMALLEST}

-- a class fits this many bytes with its header, and no larger one does
pub record IsLargestThatFits (left room : ℕ) : Type 0 where
  pub known : IsTrue (is_in room rooms)
  pub fits : room + HEADER ≤ left
  pub largest : (other : ℕ) → IsTrue (is_in other rooms) → other + HEADER ≤ left → other ≤ room

-- chunks of these rooms are cut from this many bytes, one after the other: while 16 bytes are left, one of the largest class that fits
abbrev pub IsCut : ℕ → List ℕ → Type 0
IsCut left [] = left < SMALLEST + HEADER
IsCut left (room ∷ cut) = (SMALLEST + HEADER ≤ left) × (IsLargestThatFits left room) × (IsCut (left - (room + HEADER)) cut)

-- how many bytes chunks of these rooms take with their headers
abbrev pub with_headers : List ℕ → ℕ
with_headers [] = 0
with_headers (room ∷ cut) = room + HEADER + with_headers cut

-- this many bytes were cut into free chunks, in front of those before, the last one that was cut first; under 16 are in none
pub record IsCutUp (left : ℕ) (before after : List ℕ) : Type 0 where
  pub cut : List ℕ
  pub free : after ≡ reverse cut ++ before
  pub each : IsCut left cut
  pub sum : (with_headers cut ≤ left) × (left < with_headers cut + (SMALLEST + HEADER))

-- a size doubled until it holds this many bytes, and no more often
pub record IsDoubled (first bytes size : ℕ) : Type 0 where
  pub times : ℕ
  pub doubled : size ≡ first * 2 ^ times
  pub holds : bytes ≤ size
  pub least : (fewer : ℕ) → fewer < times → first * 2 ^ fewer < bytes

-- how a set grows when a request of a class takes a block. The block has the next size, doubled until it holds the chunk with its header.
-- What was left of the block before is cut up. The chunk lies at the front of the new block, and the next size doubles
pub record GrowsByRule (s : SetState) : Type 0 where
  pub next : (BLOCK ≤ s.next) × (s.next ≤ LARGEST_BLOCK)
  pub size : (n : ℕ) → n ≤ LARGEST → 0 < set_growth s n → IsDoubled s.next (set_room n + HEADER) (set_growth s n)
  pub most : (n : ℕ) → n ≤ LARGEST → set_growth s n ≤ LARGEST_BLOCK
  pub cut : (n : ℕ) → n ≤ LARGEST → 0 < set_growth s n → (p : ChunkContents) → p.room ≡ set_room n
      → IsCutUp s.left s.free (set_taken s n p).free
  pub rest : (n : ℕ) → n ≤ LARGEST → 0 < set_growth s n → (p : ChunkContents) → p.room ≡ set_room n → (set_taken s n p).left
      ≡ set_growth s n - (set_room n + HEADER)
  pub doubles : (n : ℕ) → n ≤ LARGEST → 0 < set_growth s n → (p : ChunkContents) → p.room ≡ set_room n → (set_taken s n p).next
      ≡ min (2 * s.next) LARGEST_BLOCK
