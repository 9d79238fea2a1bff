use Rattle.std.proofs.Common.{length}
use Rattle.packed_rows.proofs.RowLaws.{NextSoFar}
use Rattle.packed_rows.proofs.unpacking.part_at.Given as goal

abbrev pub invariant-loop-place : goal.invariant-loop-place
invariant-loop-place l = NextSoFar l.places l.from l.place-index l.behind (length l.ends)
