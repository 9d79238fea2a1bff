-- A context of any kind: what is said of the four kinds, by its kind.
-- (PostgreSQL 17, src/backend/utils/mmgr/README: contexts of several kinds with the same calls; all else is our own)
use Rattle.std.specs.Prelude.{◌≡◌, ℕ, ◌*◌, nat_lt, Bool, true, false, List, Option, None, length}
use Rattle.chunk_layout.specs.Contents.{ChunkContents, total}
use Rattle.chunk_layout.specs.declared.place.Place.{Place}
use Rattle.chunk_layout.specs.declared.place.ChunkName.{ChunkName}
use Rattle.chunk_layout.specs.declared.blocks.TheConstants.{HEADER}
use Rattle.chunk_contexts.specs.Chunks.{is_live, bytes_of, IsNewBlock}
use Rattle.chunk_contexts.specs.Rooms.{rounded, over_most}
use Rattle.chunk_contexts.specs.Set.{new_set, set_room, set_growth, set_taken, set_wrote, set_put, set_freed, set_reset}
use Rattle.chunk_contexts.specs.SetRules.{GrowsByRule}
use Rattle.chunk_contexts.specs.Slab.{new_slab, slab_refusal, slab_growth, slab_grows, slab_taken, slab_wrote, slab_freed, slab_reset}
use Rattle.chunk_contexts.specs.Slab.{has_spare, per_block, block_count}
use Rattle.chunk_contexts.specs.Run.{new_run, run_growth, run_taken, run_wrote, run_put, run_reset, IsBlockOf}
use Rattle.chunk_contexts.specs.Generation.{gen_freed}
use Rattle.chunk_contexts.specs.declared.error.ContextError.{ContextError}
use Rattle.context_tree.specs.declared.context.Context.{Context}
use Rattle.context_tree.specs.declared.context.Context.TheVariants.{AllocSet, Slab, Generation, Bump}
use Rattle.context_tree.specs.declared.kind.Kind.{Kind}
use Rattle.context_tree.specs.declared.kind.Kind.TheVariants as kind

-- a new context of a kind, and why none is made of it
abbrev pub new_context : Kind → Context
new_context kind.AllocSet = AllocSet new_set
new_context (kind.Slab size) = Slab (new_slab size)
new_context kind.Generation = Generation new_run
new_context kind.Bump = Bump new_run

abbrev pub kind_refusal : Kind → Option ContextError
kind_refusal kind.AllocSet = None
kind_refusal (kind.Slab size) = over_most size
kind_refusal kind.Generation = None
kind_refusal kind.Bump = None

-- its live chunks, and the size of each block by its number
abbrev pub chunks_of : Context → List ChunkContents
chunks_of (AllocSet s) = s.chunks
chunks_of (Slab s) = s.chunks
chunks_of (Generation s) = s.chunks
chunks_of (Bump s) = s.chunks

abbrev pub blocks_of : Context → List (Option ℕ)
blocks_of (AllocSet s) = s.blocks
blocks_of (Slab s) = s.blocks
blocks_of (Generation s) = s.blocks
blocks_of (Bump s) = s.blocks

-- how many bytes a chunk of n bytes has room for; why a request of n bytes is refused; how many bytes of blocks it takes;
-- and whether chunks can be given up one by one
abbrev pub room_in : Context → ℕ → ℕ
room_in (AllocSet s) n = set_room n
room_in (Slab s) n = rounded n
room_in (Generation s) n = rounded n
room_in (Bump s) n = rounded n

abbrev pub refusal_of : Context → ℕ → Option ContextError
refusal_of (AllocSet s) n = over_most n
refusal_of (Slab s) n = slab_refusal s n
refusal_of (Generation s) n = over_most n
refusal_of (Bump s) n = over_most n

abbrev pub growth_of : Context → ℕ → ℕ
growth_of (AllocSet s) n = set_growth s n
growth_of (Slab s) n = slab_growth s n
growth_of (Generation s) n = run_growth HEADER s n
growth_of (Bump s) n = run_growth 0 s n

abbrev pub can_free : Context → Bool
can_free (AllocSet s) = true
can_free (Slab s) = true
can_free (Generation s) = true
can_free (Bump s) = false

-- whether the chunk of a request of n bytes may lie in a block
abbrev pub may_lie_in : Context → ℕ → ℕ → Type 0
may_lie_in (AllocSet s) n block = IsNewBlock (set_growth s n) s.blocks block
may_lie_in (Slab s) n block = IsNewBlock (slab_grows s) s.blocks block
may_lie_in (Generation s) n block = IsBlockOf s (run_growth HEADER s n) block
may_lie_in (Bump s) n block = IsBlockOf s (run_growth 0 s n) block

-- with a chunk more for a request of n bytes; with other bytes in a chunk, as many as it had or not; without a chunk; and
-- without any
abbrev pub with_chunk : Context → ℕ → ChunkContents → Context
with_chunk (AllocSet s) n p = AllocSet (set_taken s n p)
with_chunk (Slab s) n p = Slab (slab_taken s p)
with_chunk (Generation s) n p = Generation (run_taken HEADER s p)
with_chunk (Bump s) n p = Bump (run_taken 0 s p)

abbrev pub with_bytes : Context → Place → List ℕ → Context
with_bytes (AllocSet s) place bytes = AllocSet (set_wrote s place bytes)
with_bytes (Slab s) place bytes = Slab (slab_wrote s place bytes)
with_bytes (Generation s) place bytes = Generation (run_wrote s place bytes)
with_bytes (Bump s) place bytes = Bump (run_wrote s place bytes)

abbrev pub with_resized : Context → Place → List ℕ → Context
with_resized (AllocSet s) place bytes = AllocSet (set_put s place bytes)
with_resized (Slab s) place bytes = Slab s
with_resized (Generation s) place bytes = Generation (run_put s place bytes)
with_resized (Bump s) place bytes = Bump (run_put s place bytes)

abbrev pub without_chunk : Context → Place → Context
without_chunk (AllocSet s) place = AllocSet (set_freed s place)
without_chunk (Slab s) place = Slab (slab_freed s place)
without_chunk (Generation s) place = Generation (gen_freed s place)
without_chunk (Bump s) place = Bump s

abbrev pub reset_context : Context → Context
reset_context (AllocSet s) = AllocSet (set_reset s)
reset_context (Slab s) = Slab (slab_reset s)
reset_context (Generation s) = Generation (run_reset s)
reset_context (Bump s) = Bump (run_reset s)

-- an empty context of the first kind, which also stands for none
abbrev pub no_context : Context
no_context = AllocSet new_set

-- whether a name is that of a live chunk, and its bytes
abbrev pub has_chunk : Context → ChunkName → Bool
has_chunk c name = is_live (chunks_of c) name

abbrev pub chunk_bytes : Context → ChunkName → List ℕ
chunk_bytes c name = bytes_of (chunks_of c) name

-- the bytes of all its blocks
abbrev pub held_by : Context → ℕ
held_by c = total (blocks_of c)

-- a block of a slab has a free chunk just where there are fewer chunks than all its blocks have room for
abbrev pub IsCounted : Context → Type 0
IsCounted (AllocSet s) = Unit {0}
IsCounted (Slab s) = has_spare s ≡ nat_lt (length s.chunks) (per_block (rounded s.size) * block_count s.blocks)
IsCounted (Generation s) = Unit {0}
IsCounted (Bump s) = Unit {0}

-- a set grows by the rule that a block has the next size, and that what was left of the one before is cut up
abbrev pub IsGrownByRule : Context → Type 0
IsGrownByRule (AllocSet s) = GrowsByRule s
IsGrownByRule (Slab s) = Unit {0}
IsGrownByRule (Generation s) = Unit {0}
IsGrownByRule (Bump s) = Unit {0}
