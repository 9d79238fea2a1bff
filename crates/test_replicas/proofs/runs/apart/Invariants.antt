use Rattle.std.specs.Prelude.{◌≡◌, take}
use Rattle.packed_rows.specs.View.{bytes_of}
use Rattle.test_replicas.proofs.runs.apart.Given as goal

abbrev pub invariant-loop-place : goal.invariant-loop-place
invariant-loop-place l = bytes_of l.apart.items ≡ take l.place l.rows
