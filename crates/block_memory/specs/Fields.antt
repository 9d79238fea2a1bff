-- What is true of the fields of a block.
use Rattle.std.specs.Prelude.{◌≡◌, ℕ, ◌^◌, ◌<◌, ◌≤◌, length}
use denote.RawPtr.{Ptr}
use Rattle.block_memory.specs.declared.raw.Memory.{Memory}

-- the memory is that of a block which begins at the start and has len bytes, a number that a block can have
pub record IsBlockMemory (start : Ptr) (len : ℕ) (memory : Memory) : Type 0 where
  pub here : memory.start ≡ start
  pub whole : length memory.cells ≡ len
  pub not_empty : 1 ≤ len
  pub small : len < 2 ^ 63
