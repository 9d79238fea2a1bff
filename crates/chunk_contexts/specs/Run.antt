-- The rules of space of a `Generation` and a `Bump`: chunks lie one after the other in blocks of 8,192 bytes. A chunk that
-- is longer, with its header if chunks have one, has a block of its own, and the block in use stays. (The rules are our own:
-- in PostgreSQL 17, src/backend/utils/mmgr/generation.c and bump.c, blocks double.)
use Rattle.std.specs.Prelude.{◌≡◌, ℕ, ◌+◌, ◌-◌, ◌<◌, nat_le, Bool, true, false, List, [], ◌∷◌, Option, None, replicate, length, get_or}
use Rattle.std.specs.Prelude.{is_some, IsTrue}
use Rattle.chunk_layout.specs.Every.{Every}
use Rattle.chunk_layout.specs.Contents.{ChunkContents, contents_at, with_block, without, rewritten}
use Rattle.chunk_layout.specs.declared.place.Place.{Place}
use Rattle.chunk_contexts.specs.Rooms.{rounded, over_most}
use Rattle.chunk_contexts.specs.Free.{IsRest}
use Rattle.chunk_contexts.specs.declared.runs.Runs.{Runs}
use Rattle.chunk_contexts.specs.declared.rooms.TheConstants.{BLOCK}

-- its live chunks, the newest first; the size of each block by its number; the number of the block in use; and what is
-- left of it
pub record RunState : Type 0 where
  pub chunks : List ChunkContents
  pub blocks : List (Option ℕ)
  pub active : ℕ
  pub left : ℕ

abbrev pub new_run : RunState
new_run = record { chunks = []; blocks = []; active = 0; left = 0 }

-- how many bytes of blocks a request takes: whether it is refused, fits a block, and fits what is left
abbrev pub run_growth_by : Bool → Bool → Bool → ℕ → ℕ
run_growth_by true small fits size = 0
run_growth_by false false fits size = size
run_growth_by false true true size = 0
run_growth_by false true false size = BLOCK

abbrev pub run_growth : ℕ → RunState → ℕ → ℕ
run_growth head s n = run_growth_by (is_some (over_most n)) (nat_le (head + rounded n) BLOCK) (nat_le (head + rounded n) s.left) (head
    + rounded n)

-- with a chunk: in a block of its own, after the others, or in a new block
abbrev pub run_taken_by : Bool → Bool → ℕ → RunState → ChunkContents → RunState
run_taken_by false fits size s p = record {
  chunks = p ∷ s.chunks;
  blocks = with_block s.blocks p.place.block size;
  active = s.active;
  left = s.left;
}
run_taken_by true true size s p = record { chunks = p ∷ s.chunks; blocks = s.blocks; active = s.active; left = s.left - size }
run_taken_by true false size s p = record {
  chunks = p ∷ s.chunks;
  blocks = with_block s.blocks p.place.block BLOCK;
  active = p.place.block;
  left = BLOCK - size;
}

abbrev pub run_taken : ℕ → RunState → ChunkContents → RunState
run_taken head s p = run_taken_by (nat_le (head + p.room) BLOCK) (nat_le (head + p.room) s.left) (head + p.room) s p

-- the block of a chunk that is made: the one in use, or a new one where blocks grow
abbrev pub IsBlockOf : RunState → ℕ → ℕ → Type 0
IsBlockOf s growth b = (growth ≡ 0 → b ≡ s.active) × (0 < growth → get_or s.blocks b None ≡ None)

-- with other bytes in the chunk at a place, as many as there were
abbrev pub run_wrote : RunState → Place → List ℕ → RunState
run_wrote s place bytes = record { chunks = rewritten s.chunks place bytes; blocks = s.blocks; active = s.active; left = s.left }

-- with other bytes in the chunk at a place, which is then the first
abbrev pub run_put : RunState → Place → List ℕ → RunState
run_put s place bytes = record {
  chunks = (record { place = place; room = (contents_at s.chunks place).room; is_live = true; bytes = bytes }) ∷ without s.chunks place;
  blocks = s.blocks;
  active = s.active;
  left = s.left;
}

-- without any chunk or block
abbrev pub run_reset : RunState → RunState
run_reset s = record { chunks = []; blocks = replicate (length s.blocks) None; active = 0; left = 0 }

-- ---- the fields
abbrev pub run_of : Runs → RunState
run_of r = record { chunks = r.layout.contents; blocks = r.layout.blocks; active = r.active.block; left = r.active.size - r.active.used }

-- the block of each chunk is there, and no chunk lies in what is left of the one in use
pub record IsRun (width : ℕ) (r : Runs) : Type 0 where
  pub head : r.layout.head ≡ width
  pub rest : IsRest r.layout r.active
  pub there : Every (λ p. IsTrue (is_some (get_or r.layout.blocks p.place.block None))) r.layout.contents
