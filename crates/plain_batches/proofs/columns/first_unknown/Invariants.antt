use Rattle.std.proofs.Common.{ℕ, ◌<◌, [], get_or}
use Rattle.csv.specs.Records.{fields_of}
use Rattle.plain_batches.specs.Columns.{IsNowhere}
use Rattle.plain_batches.proofs.columns.first_unknown.Given as goal

abbrev pub invariant-loop-place : goal.invariant-loop-place
invariant-loop-place l = (place : ℕ) → place < l.place → ¬ (IsNowhere (fields_of l.names) (get_or (fields_of l.header) place []))
