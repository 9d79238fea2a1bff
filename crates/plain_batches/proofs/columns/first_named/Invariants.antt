use Rattle.std.proofs.Common.{ℕ, ◌≤◌, ◌<◌}
use Rattle.csv.specs.Records.{fields_of}
use Rattle.plain_batches.specs.Columns.{IsNamed}
use Rattle.plain_batches.proofs.columns.first_named.Given as goal

abbrev pub invariant-loop-place : goal.invariant-loop-place
invariant-loop-place l = (place : ℕ) → l.from ≤ place → place < l.place → ¬ (IsNamed (fields_of l.header) l.name place)
