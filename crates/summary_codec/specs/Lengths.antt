-- How long a summary file is. All of this is our own.
use Rattle.std.specs.Prelude.{ℕ, ◌≡◌, ◌^◌, ◌-◌, List, length, min}
use Rattle.query_checks.specs.Checks.{Checked}
use Rattle.origin_prefix.specs.Held.{Parts}
use Rattle.summary_codec.specs.Reading.{IsSaved}

-- so many bytes there are, or more than a number of 64 bits can say
abbrev pub IsLength : List ℕ → ℕ → Type 0
IsLength bytes len = len ≡ min (length bytes) (2 ^ 64 - 1)

-- a file of what is held for a query has so many bytes
pub record HasLength (query : Checked) (parts : Parts) (len : ℕ) : Type 0 where
  pub file : List ℕ
  pub is : IsSaved file query parts
  pub counted : IsLength file len
