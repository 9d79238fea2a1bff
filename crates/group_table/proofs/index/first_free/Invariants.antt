use Rattle.std.proofs.Common.{◌≡◌, ◌<◌, ◌≤◌, ℕ, true, is_some}
use Rattle.group_table.specs.Buckets.{bucket_at}
use Rattle.group_table.proofs.index.first_free.Given as goal

abbrev pub invariant-loop-place : goal.invariant-loop-place
invariant-loop-place l = (other : ℕ) → l.from ≤ other → other < l.place → is_some (bucket_at l.array other) ≡ true
