-- What a block of memory holds: a cell for each byte, `Some` of the byte once it was written, and `None` before. All of this is our own.
use Rattle.std.specs.Prelude.{◌≡◌, ℕ, ◌+◌, ◌≤◌, List, Option, Some, None, map, replicate, length, take, drop, IsTrue, is_some}
use Rattle.std.specs.List.{list_all, splice}

-- the cells of a block
abbrev pub Cells : Type 0
Cells = List (Option ℕ)

-- n cells of which none was written, and n zeros. Neither unfolds by itself, so that a large number stays a number
unfoldable pub blank_cells : ℕ → Cells
blank_cells n = replicate n None

unfoldable pub zeros : ℕ → List ℕ
zeros n = replicate n 0

-- the n cells from `at` on lie in the block, and each was written
abbrev pub IsWritten : Cells → ℕ → ℕ → Type 0
IsWritten cells at n = (at + n ≤ length cells) × IsTrue (list_all is_some (take n (drop at cells)))

-- the bytes stand in the cells from `at` on
pub record Holds (cells : Cells) (at : ℕ) (bytes : List ℕ) : Type 0 where
  pub within : at + length bytes ≤ length cells
  pub values : take (length bytes) (drop at cells) ≡ map Some bytes

-- the cells after the bytes were written from `at` on. What would lie past the end is left out, so they stay as many
abbrev pub with_bytes : Cells → ℕ → List ℕ → Cells
with_bytes cells at bytes = take (length cells) (splice cells at (at + length bytes) (map Some bytes))
