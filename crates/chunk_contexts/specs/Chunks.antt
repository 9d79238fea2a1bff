-- The content of a context: a finite map from the names of its live chunks to their bytes, as the list of these chunks. (PostgreSQL 17,
-- src/backend/utils/mmgr/README: what memory contexts are for; that a name is a place and a length: own)
use Rattle.std.specs.Prelude.{◌≡◌, ℕ, ◌+◌, ◌<◌, ◌==◌, ◌&&◌, Bool, true, false, List, [], ◌∷◌, Option, Some, None, length, get_or, IsTrue}
use Rattle.std.specs.List.{filter}
use Rattle.chunk_layout.specs.Contents.{ChunkContents, place_of, same_place, has, contents_at, resized}
use Rattle.chunk_layout.specs.declared.place.Place.{Place}
use Rattle.chunk_layout.specs.declared.place.ChunkName.{ChunkName}
use Rattle.chunk_contexts.specs.declared.error.ContextError.{ContextError}
use Rattle.chunk_contexts.specs.declared.error.ContextError.TheVariants.{NoMemory, NotSupported}

-- the chunks of which somebody has the name
abbrev pub live : List ChunkContents → List ChunkContents
live ps = filter (λ p. p.is_live) ps

-- whether a name is that of one of the chunks
abbrev pub is_live : List ChunkContents → ChunkName → Bool
is_live chunks name = has chunks (place_of name) && (length (contents_at chunks (place_of name)).bytes == name.len)

-- the bytes of a chunk
abbrev pub bytes_of : List ChunkContents → ChunkName → List ℕ
bytes_of chunks name = (contents_at chunks (place_of name)).bytes

-- how many bytes chunks have together
abbrev pub lengths : List ChunkContents → ℕ
lengths [] = 0
lengths (p ∷ ps) = length p.bytes + lengths ps

-- after are the chunks before with one more, whose place none of them had
pub record Adds (before after : List ChunkContents) (name : ChunkName) (room : ℕ) (bytes : List ℕ) : Type 0 where
  pub len : name.len ≡ length bytes
  pub fresh : has before (place_of name) ≡ false
  pub chunks : after ≡ (record { place = place_of name; room = room; is_live = true; bytes = bytes }) ∷ before

-- each live chunk stays live and keeps its bytes, and a new name is that of none of them
abbrev pub Keeps : List ChunkContents → List ChunkContents → ChunkName → Type 0
Keeps before after new = (other : ChunkName) → IsTrue (is_live before other) → (same_place (place_of new) (place_of other) ≡ false)
    × (IsTrue (is_live after other)) × (bytes_of after other ≡ bytes_of before other)

-- the same of each live chunk but one
abbrev pub KeepsOthers : List ChunkContents → List ChunkContents → ChunkName → ChunkName → Type 0
KeepsOthers before after name new = (other : ChunkName) → same_place (place_of name) (place_of other) ≡ false
    → IsTrue (is_live before other) → (same_place (place_of new) (place_of other) ≡ false) × (IsTrue (is_live after other))
    × (bytes_of after other ≡ bytes_of before other)

-- a chunk of n bytes is taken: there is one more, whose name is live and has the bytes, and all other names keep theirs
pub record TakesChunk (before after : List ChunkContents) (name : ChunkName) (room n : ℕ) (bytes : List ℕ) : Type 0 where
  pub added : Adds before after name room bytes
  pub len : name.len ≡ n
  pub lives : IsTrue (is_live after name)
  pub holds : bytes_of after name ≡ bytes
  pub keeps : Keeps before after name

-- why a request is refused: as the kind says, else only because memory ran out and blocks had to grow
abbrev pub IsRefused : Option ContextError → ℕ → ContextError → Type 0
IsRefused None growth error = (error ≡ NoMemory) × (0 < growth)
IsRefused (Some refusal) growth error = error ≡ refusal

-- where blocks grow, a block is one of a number that none had
abbrev pub IsNewBlock : ℕ → List (Option ℕ) → ℕ → Type 0
IsNewBlock growth blocks block = 0 < growth → get_or blocks block None ≡ None

-- a live chunk by its name
abbrev pub chunk_of : ChunkName → ℕ → List ℕ → ChunkContents
chunk_of name room bytes = record { place = place_of name; room = room; is_live = true; bytes = bytes }

-- why a chunk is not resized: the kind has no such call, or refuses the size, or blocks would have to grow
abbrev pub IsResizeRefused : Bool → Option ContextError → ℕ → ℕ → ℕ → ContextError → Type 0
IsResizeRefused false refusal growth room n error = error ≡ NotSupported
IsResizeRefused true None growth room n error = (error ≡ NoMemory) × (0 < growth) × (room < n)
IsResizeRefused true (Some refusal) growth room n error = error ≡ refusal

-- after are the chunks before with one of n bytes in the place of one of any length
pub record IsResized (before after : List ChunkContents) (name new : ChunkName) (n : ℕ) : Type 0 where
  pub len : new.len ≡ n
  pub lives : IsTrue (is_live after new)
  pub bytes : bytes_of after new ≡ resized (bytes_of before name) n
  pub others : (q : Place) → same_place (place_of name) q ≡ false → same_place (place_of new) q ≡ false → (has after q ≡ has before q)
      × (contents_at after q ≡ contents_at before q)
  pub gone : same_place (place_of name) (place_of new) ≡ false → (has after (place_of name) ≡ false) × (has before (place_of new) ≡ false)
