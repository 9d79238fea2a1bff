-- Rows that may lie among others. All of this is our own.
use Rattle.std.specs.Prelude.{ℕ, ◌+◌, ◌<◌, ◌≤◌, ◌^◌, List, [], drop, length, take}
use Rattle.packed_rows.specs.declared.shared_rows.Held.{Held}
use Rattle.packed_rows.specs.declared.shared_rows.Held.TheVariants.{Nowhere, Own, Among}

-- the rows that lie somewhere: all of a block, or some of them
abbrev pub rows_held : Held → List (List ℕ)
rows_held Nowhere = []
rows_held (Own block) = block.value
rows_held (Among first count block) = take count (drop first block.value)

-- the block has as many, which 16 bits can tell
abbrev pub AreThere : Held → Type 0
AreThere Nowhere = Unit {0}
AreThere (Own block) = Unit {0}
AreThere (Among first count block) = (first + count ≤ length block.value) × (first + count < 2 ^ 16)
