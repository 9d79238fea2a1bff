-- What a part that is lent to be changed leaves in a block.
use Rattle.std.specs.Prelude.{ℕ, List, take}
use Rattle.std.specs.Borrow.{Lends, MutBor, Fml, Array, u8}
use Rattle.block_memory.specs.Cells.{Cells, with_bytes}
use Rattle.block_memory.specs.contracts.block.RawBlock.{the_row}

-- the block ends with the last bytes behind r from `at` on, which are n, and else as it was. More than n would be cut,
-- so that whatever is said of the end holds for each list
abbrev pub lends_bytes : MutBor Cells → ℕ → ℕ → MutBor (List ℕ) → Fml
lends_bytes s at n r = Lends the_row (Array u8 0) s r (λ bytes. with_bytes s.now at (take n bytes))
