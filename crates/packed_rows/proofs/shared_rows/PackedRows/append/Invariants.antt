use Rattle.std.proofs.Common.{◌≡◌, ◌++◌, take}
use Rattle.packed_rows.proofs.shared_rows.PackedRows.append.Given as goal

abbrev pub invariant-loop-place : goal.invariant-loop-place
invariant-loop-place l = l.self ≡ l.fn.self ++ take l.place l.other
