use Rattle.std.proofs.Common.{◌≡◌, ◌+◌, ◌<◌, length}
use Rattle.std.specs.Io.KnownBytes.{Consumes}
use Rattle.script_io.specs.Fused.{unread}
use Rattle.script_io.proofs.input.read_input.Given as goal

abbrev pub invariant-loop-text : goal.invariant-loop-text
invariant-loop-text g l = (length l.text.items + l.left ≡ l.most + 1) × (0 < l.left)
    × Consumes (unread g.R.Read.remaining l.fn.reader) (unread g.R.Read.remaining l.reader) l.text.items

abbrev pub decreases-loop-text : goal.decreases-loop-text
decreases-loop-text g l = l.left
