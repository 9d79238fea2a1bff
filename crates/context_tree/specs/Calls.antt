-- What a call of a tree does to the context that its id reaches, in the words of `ChunkContext`, and why it is refused.
-- (The calls are those of PostgreSQL's contexts: `src/backend/utils/mmgr/README`; how they are said is our own.)
use Rattle.std.specs.Prelude.{◌≡◌, ℕ, ◌+◌, ◌<◌, ◌≤◌, true, false, List, ◌++◌, None, length, get_or, is_some, take, drop, IsTrue}
use Rattle.std.specs.Prelude.{Result, MatchResult}
use Rattle.chunk_layout.specs.Contents.{contents_at, place_of, resized, without}
use Rattle.chunk_layout.specs.declared.place.ChunkName.{ChunkName}
use Rattle.chunk_contexts.specs.Chunks.{chunk_of, TakesChunk, KeepsOthers, IsResized, IsRefused, IsResizeRefused}
use Rattle.chunk_contexts.specs.declared.error.ContextError.{ContextError}
use Rattle.chunk_contexts.specs.declared.error.ContextError.TheVariants.{NotSupported}
use Rattle.context_tree.specs.Contexts.{chunks_of, blocks_of, room_in, refusal_of, growth_of, can_free, may_lie_in, held_by, has_chunk}
use Rattle.context_tree.specs.Contexts.{chunk_bytes, with_chunk, with_bytes, with_resized, without_chunk}
use Rattle.context_tree.specs.Tree.{TreeState, is_there, context_at, with_context, IsRefusedBy}
use Rattle.context_tree.specs.declared.context.Context.{Context}
use Rattle.context_tree.specs.declared.error.TreeError.{TreeError}
use Rattle.context_tree.specs.declared.error.TreeError.TheVariants.{NoSuchContext}
use Rattle.context_tree.specs.declared.links.ContextId.{ContextId}

-- there is a context of this id, a call does this to it, and all else of the tree stays as it was
pub record OnContext (id : ContextId) (before after : TreeState) (Does : Context → Context → Type 0) : Type 0 where
  pub there : is_there before id ≡ true
  pub does : Does (context_at before id) (context_at after id)
  pub rest : after ≡ with_context before id (context_at after id)

-- there is no context of this id
abbrev pub IsGone : ContextId → TreeState → TreeError → Type 0
IsGone id t e = (is_there t id ≡ false) × (e ≡ NoSuchContext)

-- what is told of the context of this id
abbrev pub Answers : {X : Type 0} → ContextId → TreeState → X → Result X TreeError → Type 0
Answers id t told result = MatchResult result (λ x. (is_there t id ≡ true) × (x ≡ told)) (IsGone id t)

-- there is none, or it refuses the call
abbrev pub IsRefusedOn : ContextId → TreeState → (Context → ContextError → Type 0) → TreeError → Type 0
IsRefusedOn id t Refuses = IsRefusedBy (is_there t id) (Refuses (context_at t id))

-- how many bytes a live chunk has room for
abbrev pub room_at : Context → ChunkName → ℕ
room_at c name = (contents_at (chunks_of c) (place_of name)).room

-- a context with a chunk more, which has n bytes and this name
abbrev pub with_new_chunk : Context → ℕ → List ℕ → ChunkName → Context
with_new_chunk c n bytes name = with_chunk c n (chunk_of name (room_in c n) bytes)

-- `alloc` of n bytes: a chunk of them is taken by the rule of the context's kind
pub record Allocates (n : ℕ) (bytes : List ℕ) (name : ChunkName) (before after : Context) : Type 0 where
  pub admitted : refusal_of before n ≡ None
  pub taken : TakesChunk (chunks_of before) (chunks_of after) name (room_in before n) n bytes
  pub block : IsTrue (is_some (get_or (blocks_of after) name.block None))
  pub lies : may_lie_in before n name.block
  pub space : after ≡ with_new_chunk before n bytes name
  pub grown : held_by after ≡ held_by before + growth_of before n

abbrev pub RefusesAlloc : ℕ → Context → ContextError → Type 0
RefusesAlloc n c = IsRefused (refusal_of c n) (growth_of c n)

-- `free`: a chunk is given up, where the kind has this call
pub record Frees (name : ChunkName) (before after : Context) : Type 0 where
  pub supported : can_free before ≡ true
  pub gone : chunks_of after ≡ without (chunks_of before) (place_of name)
  pub keeps : KeepsOthers (chunks_of before) (chunks_of after) name name
  pub space : after ≡ without_chunk before (place_of name)

abbrev pub RefusesFree : Context → ContextError → Type 0
RefusesFree c e = (e ≡ NotSupported) × (can_free c ≡ false)

-- a chunk moves: another one is taken, and then the old one is given up
pub record Moves (name : ChunkName) (n : ℕ) (new : ChunkName) (before after : Context) : Type 0 where
  pub space : after ≡ without_chunk (with_new_chunk before n (resized (chunk_bytes before name) n) new) (place_of name)
  pub lies : may_lie_in before n new.block
  pub grown : held_by (with_new_chunk before n (resized (chunk_bytes before name) n) new) ≡ held_by before + growth_of before n

-- `resize`: a chunk has n bytes, where it is if it has the room; else another one is taken, and the old one is given up
pub record Resizes (name : ChunkName) (n : ℕ) (new : ChunkName) (before after : Context) : Type 0 where
  pub supported : can_free before ≡ true
  pub admitted : refusal_of before n ≡ None
  pub stays : n ≤ room_at before name → after ≡ with_resized before (place_of name) (resized (chunk_bytes before name) n)
  pub moves : room_at before name < n → Moves name n new before after
  pub resized : IsResized (chunks_of before) (chunks_of after) name new n
  pub keeps : KeepsOthers (chunks_of before) (chunks_of after) name new

abbrev pub RefusesResize : ChunkName → ℕ → Context → ContextError → Type 0
RefusesResize name n c = IsResizeRefused (can_free c) (refusal_of c n) (growth_of c n) (room_at c name) n

-- `write`: bytes stand in a chunk from one place on, and all else of it is as it was
abbrev pub written : List ℕ → ℕ → List ℕ → List ℕ
written old at bytes = take at old ++ bytes ++ drop (at + length bytes) old

pub record Writes (name : ChunkName) (at : ℕ) (bytes : List ℕ) (before after : Context) : Type 0 where
  pub lives : IsTrue (has_chunk after name)
  pub holds : chunk_bytes after name ≡ written (chunk_bytes before name) at bytes
  pub keeps : KeepsOthers (chunks_of before) (chunks_of after) name name
  pub space : after ≡ with_bytes before (place_of name) (written (chunk_bytes before name) at bytes)
