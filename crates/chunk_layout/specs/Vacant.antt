-- Which numbers have no block. All of this is our own.
use Rattle.std.specs.Prelude.{◌≡◌, ℕ, ◌<◌, not, Bool, false, List, Option, None, length, get_or, is_some}

-- just the numbers that have no block are marked, and each number can be marked
pub record AreVacant (blocks : List (Option ℕ)) (marks : List Bool) : Type 0 where
  pub long : length marks ≡ length blocks
  pub vacant : (block : ℕ) → block < length blocks → get_or marks block false ≡ not (is_some (get_or blocks block None))
