use Rattle.std.specs.Prelude.{◌≡◌, take}
use Rattle.std.specs.List.{All}
use Rattle.hash_agg.specs.Passes.{IsAbbreviated, pairs, entries_of}
use Rattle.hash_agg.proofs.groups.Groups.sorted.Given as goal

abbrev pub invariant-loop-place : goal.invariant-loop-place
invariant-loop-place g l = (pairs l.entries.items ≡ take l.place (entries_of l.self)) × All IsAbbreviated l.entries.items
