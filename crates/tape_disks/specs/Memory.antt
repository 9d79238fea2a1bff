-- A disk in memory: its pages lie in chunks of a context, and a place of a page that it does not have is 0.
use Rattle.std.specs.Prelude.{◌≡◌, ◌≢◌, ℕ, ◌+◌, ◌/◌, ◌%◌, ◌<◌, ◌≤◌, ◌⊎◌, false, List, Option, Some, None, length, get_or, IsTrue}
use Rattle.std.specs.Map.{lookup}
use Rattle.std.specs.BTreeMap.{is_at}
use Rattle.std.specs.Ordering.{nat_cmp}
use Rattle.chunk_layout.specs.Contents.{ChunkContents, place_of, same_place}
use Rattle.chunk_layout.specs.declared.place.ChunkName.{ChunkName}
use Rattle.chunk_contexts.specs.Chunks.{is_live, bytes_of}
use Rattle.tape_disks.specs.declared.limits.TheConstants.{PAGE}

-- the chunks; the name of each page's chunk, by the page's number; and how often it was written
pub record MemoryState : Type 0 where
  pub chunks : List ChunkContents
  pub pages : List (ℕ × ChunkName)
  pub count : ℕ

-- the chunk of a page, if it has that page
abbrev pub name_of : List (ℕ × ChunkName) → ℕ → Option ChunkName
name_of pages page = lookup (is_at (nat_cmp page)) pages

-- the byte at a place of a page, and of the disk
abbrev pub byte_in : List ChunkContents → Option ChunkName → ℕ → ℕ
byte_in chunks None k = 0
byte_in chunks (Some name) k = get_or (bytes_of chunks name) k 0

abbrev pub byte_at : MemoryState → ℕ → ℕ
byte_at m place = byte_in m.chunks (name_of m.pages (place / PAGE)) (place % PAGE)

-- all bytes are as before, and all but those from a place on
abbrev pub IsSame : MemoryState → MemoryState → Type 0
IsSame before after = (place : ℕ) → byte_at after place ≡ byte_at before place

abbrev pub IsSameBeside : MemoryState → MemoryState → ℕ → ℕ → Type 0
IsSameBeside before after at n = (place : ℕ) → (place < at) ⊎ (at + n ≤ place) → byte_at after place ≡ byte_at before place

-- these are the bytes at the places from `at` on
abbrev pub AreAt : MemoryState → ℕ → List ℕ → Type 0
AreAt m at bytes = (k : ℕ) → k < length bytes → byte_at m (at + k) ≡ get_or bytes k 0

-- each page has a chunk of its own
pub record ArePages (m : MemoryState) : Type 0 where
  pub live : (page : ℕ) → (name : ChunkName) → name_of m.pages page ≡ Some name → IsTrue (is_live m.chunks name)
  pub len : (page : ℕ) → (name : ChunkName) → name_of m.pages page ≡ Some name → name.len ≡ PAGE
  pub apart : (page other : ℕ) → (name name' : ChunkName) → name_of m.pages page ≡ Some name → name_of m.pages other ≡ Some name'
      → page ≢ other → same_place (place_of name) (place_of name') ≡ false
