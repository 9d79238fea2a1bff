use Rattle.std.specs.Prelude.{◌≡◌, take}
use Rattle.hash_agg.proofs.Words.{Rises, pairs}
use Rattle.hash_agg.proofs.sorting.sort_distinct.Given as goal

abbrev pub invariant-loop-place : goal.invariant-loop-place
invariant-loop-place l = (l.run ≡ take l.place (pairs l.entries)) × Rises l.run
