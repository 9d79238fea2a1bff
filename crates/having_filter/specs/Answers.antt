-- The values of an answer. All of this is our own.
use Rattle.std.specs.Prelude.{◌≡◌, ℕ, ◌≤◌, ◌<◌, List, [], ◌++◌, map, length, slice_range, slice_index_or, Option, Some, None}
use Rattle.std.specs.declared.alloc.Global.{Global}
use Rattle.std.specs.declared.vec.Vec.{Vec}
use Rattle.std.specs.List.{All}
use Rattle.std.specs.Str.{IsCharBoundary, IsUtf8}
use Rattle.grouping_model.specs.Datum as datum
use Rattle.grouping_model.specs.Aggregates as model
use Rattle.grouping_model.specs.Aggregates.{Outcome, Plain}
use Rattle.having_filter.specs.declared.cells.Cell.{Cell}
use Rattle.having_filter.specs.declared.cells.Cell.TheVariants.{Null, Bigint, Numeric, Boolean, Text}

-- the outcome that a cell is, where the texts lie end to end
abbrev pub outcome_in : List ℕ → Cell → Outcome
outcome_in texts Null = Plain datum.Null
outcome_in texts (Bigint z) = Plain (datum.Bigint z)
outcome_in texts (Numeric z) = model.Numeric z
outcome_in texts (Boolean b) = Plain (datum.Boolean b)
outcome_in texts (Text from to) = Plain (datum.Text (slice_range texts from to))

abbrev pub outcomes_in : List ℕ → List Cell → List Outcome
outcomes_in texts cells = map (outcome_in texts) cells

-- a text and one that begins with it
pub record Grows (text longer : List ℕ) : Type 0 where
  pub more : List ℕ
  pub more_is_text : IsUtf8 more
  pub longer_is : longer ≡ text ++ more

-- a part of a text, itself a text
pub record IsPart (text : List ℕ) (from to : ℕ) : Type 0 where
  pub rises : from ≤ to
  pub begins : IsCharBoundary text from
  pub ends : IsCharBoundary text to

-- a cell whose text, if it is one, lies in the texts
abbrev pub LiesIn : List ℕ → Cell → Type 0
LiesIn texts (Text from to) = IsPart texts from to
LiesIn texts _ = Unit {0}

abbrev pub AllLieIn : List ℕ → List Cell → Type 0
AllLieIn texts cells = All (LiesIn texts) cells

-- rows by their places, where places are given, and else as they are
abbrev pub rows_at : List (List Outcome) → Option (Vec ℕ Global) → List (List Outcome)
rows_at rows None = rows
rows_at rows (Some places) = map (λ place. slice_index_or rows place []) places.items

-- places are those of rows
abbrev pub AreBelow : List (List Outcome) → Option (Vec ℕ Global) → Type 0
AreBelow rows None = Unit {0}
AreBelow rows (Some places) = All (λ place. place < length rows) places.items
