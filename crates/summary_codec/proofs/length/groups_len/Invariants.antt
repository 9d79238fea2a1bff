use Rattle.std.specs.Prelude.{drop, flat_map}
use Rattle.summary_codec.specs.File.{group_bytes}
use Rattle.summary_codec.proofs.CountedLaws.{CountedSo}
use Rattle.summary_codec.proofs.length.groups_len.Given as goal

abbrev pub invariant-loop-place : goal.invariant-loop-place
invariant-loop-place l = CountedSo group_bytes l.len (drop l.place l.run) (flat_map group_bytes l.run)
