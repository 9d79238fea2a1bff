-- The versions of a summary file: what each begins with, and its bounds. All of this is our own.
use Rattle.std.specs.Prelude.{ℕ, ◌*◌, ◌≤◌, List, length, codes}
use Rattle.std.specs.List.{AllByRecursion}
use Rattle.grouping_model.specs.declared.limits.TheConstants.{LAST_NUMBER, MAX_ROWS}
use Rattle.query_checks.specs.Checks.{Checked}
use Rattle.having_filter.specs.Meaning.{meaning}
use Rattle.group_runs.specs.Standing.{IsRun}
use Rattle.origin_prefix.specs.Parts.{Part}
use Rattle.origin_prefix.specs.Held.{Parts}
use Rattle.summary_codec.specs.declared.version.Version.{Version}
use Rattle.summary_codec.specs.declared.version.Version.TheVariants.{First, Second}
use Rattle.summary_codec.specs.declared.version.TheConstants.{LAST_NUMBER_OF_FIRST, MAX_ROWS_OF_FIRST}

-- what a file begins with
abbrev pub opening : Version → List ℕ
opening First = codes "AGGSUM01"
opening Second = codes "AGGSUM02"

-- the greatest number of a batch
abbrev pub last_number : Version → ℕ
last_number First = LAST_NUMBER_OF_FIRST
last_number Second = LAST_NUMBER

-- the most rows of a batch
abbrev pub most_batch_rows : Version → ℕ
most_batch_rows First = MAX_ROWS_OF_FIRST
most_batch_rows Second = MAX_ROWS

-- an early batch within these bounds
pub record IsBatchWithin (version : Version) (batch : ℕ × List (List ℕ)) : Type 0 where
  pub number : batch.0 ≤ last_number version
  pub rows : length batch.1 ≤ most_batch_rows version

-- a part of an origin within them: its groups count at most the rows that its prefix may have
pub record IsWithin (version : Version) (query : Checked) (part : Part) : Type 0 where
  pub prefix : part.prefix ≤ last_number version
  pub run : IsRun (meaning query) (part.prefix * most_batch_rows version) part.run
  pub few : length part.run ≤ part.prefix * most_batch_rows version
  pub early : AllByRecursion (IsBatchWithin version) part.early

-- each part of some origins
abbrev pub AreWithin : Version → Checked → Parts → Type 0
AreWithin version query parts = AllByRecursion (λ (held : ℕ × Part). IsWithin version query held.1) parts
