use Rattle.std.specs.Prelude.{◌≡◌, ◌∷◌, take}
use Rattle.std.specs.List.{All}
use Rattle.hash_agg.proofs.Words.{concatenated, IsAbbreviated, pairs}
use Rattle.hash_agg.proofs.sorting.united.Given as goal

abbrev pub invariant-loop-run : goal.invariant-loop-run
invariant-loop-run l = (pairs l.entries.items ≡ concatenated (l.first ∷ take l.run-index l.others)) × All IsAbbreviated l.entries.items
