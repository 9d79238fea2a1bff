use Rattle.std.specs.Prelude.{drop, flat_map}
use Rattle.summary_codec.specs.File.{sized_bytes}
use Rattle.summary_codec.proofs.CountedLaws.{CountedSo}
use Rattle.summary_codec.proofs.length.rows_len.Given as goal

abbrev pub invariant-loop-place : goal.invariant-loop-place
invariant-loop-place l = CountedSo sized_bytes l.len (drop l.place l.rows) (flat_map sized_bytes l.rows)
