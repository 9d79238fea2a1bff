use Rattle.std.specs.Prelude.{◌≡◌, ◌++◌, drop, flat_map}
use Rattle.std.specs.List.{AllByRecursion}
use Rattle.summary_codec.specs.File.{sized_bytes}
use Rattle.summary_codec.specs.Short.{IsShort}
use Rattle.summary_codec.proofs.writing.push_rows.Given as goal

abbrev pub invariant-loop-place : goal.invariant-loop-place
invariant-loop-place l =
    (l.out.items ++ flat_map sized_bytes (drop l.place l.rows) ≡ l.initial.out.items ++ flat_map sized_bytes l.rows)
    × AllByRecursion IsShort (drop l.place l.rows)
