use Rattle.std.proofs.Common.{◌≡◌, take}
use Rattle.packed_rows.proofs.shared_rows.PackedRows.same_rows.Given as goal

abbrev pub invariant-loop-place : goal.invariant-loop-place
invariant-loop-place l = take l.place l.self ≡ take l.place l.other
