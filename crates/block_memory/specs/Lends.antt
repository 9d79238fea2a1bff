-- What a part that is lent to be changed leaves in the memory.
use Rattle.std.specs.Prelude.{ℕ, List, take}
use Rattle.std.specs.Borrow.{Lends, MutBor, Fml, Array, u8}
use Rattle.block_memory.specs.Cells.{with_bytes}
use Rattle.block_memory.specs.declared.raw.Memory.{Memory}
use Rattle.block_memory.specs.contracts.raw.Memory.{the_row}

-- the memory with the first n of these bytes from `at` on
abbrev pub memory_with : Memory → ℕ → ℕ → List ℕ → Memory
memory_with m at n bytes = record m { cells = with_bytes m.cells at (take n bytes) }

-- the memory ends with the last bytes behind r from `at` on, which are n, and else as it was
abbrev pub lends_run : MutBor Memory → ℕ → ℕ → MutBor (List ℕ) → Fml
lends_run m at n r = Lends the_row (Array u8 0) m r (memory_with m.now at n)
