use Rattle.std.specs.Prelude.{◌≡◌, ◌++◌, drop, flat_map}
use Rattle.summary_codec.specs.File.{group_bytes}
use Rattle.summary_codec.specs.Short.{HaveShortKeys}
use Rattle.summary_codec.proofs.writing.push_groups.Given as goal

abbrev pub invariant-loop-place : goal.invariant-loop-place
invariant-loop-place l =
    (l.out.items ++ flat_map group_bytes (drop l.place l.run) ≡ l.initial.out.items ++ flat_map group_bytes l.run)
    × HaveShortKeys (drop l.place l.run)
