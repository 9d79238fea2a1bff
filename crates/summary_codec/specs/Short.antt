-- What the fields of a file can tell. All of this is our own.
use Rattle.std.specs.Prelude.{ℕ, ◌^◌, ◌<◌, List, length}
use Rattle.std.specs.List.{AllByRecursion}
use Rattle.group_runs.specs.Runs.{Entry}
use Rattle.origin_prefix.specs.Parts.{Part}

-- bytes whose length two bytes can tell
abbrev pub IsShort : List ℕ → Type 0
IsShort bytes = length bytes < 256 ^ 2

-- groups whose keys are short
abbrev pub HaveShortKeys : List Entry → Type 0
HaveShortKeys run = AllByRecursion (λ (entry : Entry). IsShort entry.0) run

-- a batch of short rows, whose count four bytes can tell
abbrev pub IsShortBatch : ℕ × List (List ℕ) → Type 0
IsShortBatch batch = (length batch.1 < 256 ^ 4) × AllByRecursion IsShort batch.1

-- a part of such groups and batches, whose counts eight and four bytes can tell
pub record IsShortPart (part : Part) : Type 0 where
  pub few_groups : length part.run < 256 ^ 8
  pub groups : HaveShortKeys part.run
  pub few_batches : length part.early < 256 ^ 4
  pub batches : AllByRecursion IsShortBatch part.early
