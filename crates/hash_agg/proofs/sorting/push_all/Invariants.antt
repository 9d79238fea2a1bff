use Rattle.std.specs.Prelude.{◌≡◌, ◌++◌, take}
use Rattle.std.specs.List.{All}
use Rattle.hash_agg.specs.Passes.{IsAbbreviated, pairs}
use Rattle.hash_agg.proofs.sorting.push_all.Given as goal

abbrev pub invariant-loop-place : goal.invariant-loop-place
invariant-loop-place l =
    (pairs l.entries.items ≡ pairs l.initial.entries.items ++ take l.place l.run)
    × (All IsAbbreviated l.initial.entries.items → All IsAbbreviated l.entries.items)
