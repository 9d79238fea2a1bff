use Rattle.std.proofs.Common.{◌≡◌, ◌++◌, ℕ, List, length}
use Rattle.std.specs.Io.KnownBytes.{Consumes}
use Rattle.out_files.proofs.reading.gives.Given as goal

abbrev pub invariant-loop-count : goal.invariant-loop-count
invariant-loop-count g l = (front : List ℕ) × Consumes (g.F.Read.remaining l.fn.reader) (g.F.Read.remaining l.reader) front
    × (l.bytes ≡ front ++ l.left)

abbrev pub decreases-loop-count : goal.decreases-loop-count
decreases-loop-count g l = length l.left
