use Rattle.std.proofs.Common.{◌≡◌, drop, take}
use Rattle.packed_rows.proofs.shared_rows.PackedRows.copied.Given as goal

abbrev pub invariant-loop-place : goal.invariant-loop-place
invariant-loop-place l = l.block ≡ take l.place (drop l.first l.self)
