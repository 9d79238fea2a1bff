-- The rules of space of a `Generation` beside those of `Run`: a block is freed with its last chunk. All of this is
-- our own.
use Rattle.std.specs.Prelude.{◌≡◌, ℕ, ◌+◌, ◌-◌, ◌≤◌, ◌==◌, Bool, true, false, cond, List, [], ◌∷◌, None, length, get_or, slice_set}
use Rattle.chunk_layout.specs.Every.{Pairwise}
use Rattle.chunk_layout.specs.Contents.{ChunkContents, without}
use Rattle.chunk_layout.specs.declared.blocks.TheConstants.{HEADER}
use Rattle.chunk_layout.specs.declared.place.Place.{Place}
use Rattle.chunk_contexts.specs.Free.{Elsewhere}
use Rattle.chunk_contexts.specs.Run.{RunState, IsRun}
use Rattle.chunk_contexts.specs.declared.runs.Runs.{Runs}
use Rattle.chunk_contexts.specs.declared.rooms.TheConstants.{BLOCK}

-- how many of the chunks are in a block
abbrev pub in_block : List ChunkContents → ℕ → ℕ
in_block [] block = 0
in_block (p ∷ ps) block = cond (p.place.block == block) (in_block ps block + 1) (in_block ps block)

-- without a chunk: if it was the last of its block, without the block, of which nothing is left then
abbrev pub freed_by : Bool → RunState → Place → RunState
freed_by true s place = record {
  chunks = without s.chunks place;
  blocks = slice_set s.blocks place.block None;
  active = s.active;
  left =
      cond (s.active == place.block) 0 s.left;
}
freed_by false s place = record { chunks = without s.chunks place; blocks = s.blocks; active = s.active; left = s.left }

abbrev pub gen_freed : RunState → Place → RunState
gen_freed s place = freed_by (in_block (without s.chunks place) place.block == 0) s place

-- how many chunks there are is counted for each block
pub record IsCounted (r : Runs) (numbers : List ℕ) : Type 0 where
  pub run : IsRun HEADER r
  pub places : Pairwise Elsewhere r.layout.contents
  pub counts : (block : ℕ) → get_or numbers block 0 ≡ in_block r.layout.contents block
  pub long : length r.layout.blocks ≤ length numbers
  pub few : (block : ℕ) → in_block r.layout.contents block ≤ BLOCK
  pub left : in_block r.layout.contents r.active.block + (r.active.size - r.active.used) ≤ BLOCK
