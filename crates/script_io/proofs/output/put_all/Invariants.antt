use Rattle.std.proofs.Common.{◌≡◌, false, length, take, ◌-◌, ◌≤◌}
use Rattle.std.specs.Io.KnownBytes.{Appends}
use Rattle.script_io.specs.Fused.{has_failed, written}
use Rattle.script_io.proofs.output.put_all.Given as goal

abbrev pub invariant-loop-at : goal.invariant-loop-at
invariant-loop-at g l =
    (l.at ≤ length l.bytes) × Appends (written g.W.Write.contents l.fn.writer) (written g.W.Write.contents l.writer) (take l.at l.bytes)
    × (has_failed l.fn.writer ≡ false → has_failed l.writer ≡ false)

abbrev pub decreases-loop-at : goal.decreases-loop-at
decreases-loop-at g l = length l.bytes - l.at
