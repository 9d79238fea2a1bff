use Rattle.std.proofs.Common.{◌-◌, ◌≤◌, length}
use Rattle.spill_tapes.specs.Tapes.{AreOpenBefore}
use Rattle.spill_tapes.proofs.tapes.Tapes.closed_place.Given as goal

abbrev pub invariant-loop-index : goal.invariant-loop-index
invariant-loop-index l = (l.index ≤ length l.fn.self.tapes) × AreOpenBefore l.fn.self l.index

abbrev pub decreases-loop-index : goal.decreases-loop-index
decreases-loop-index l = length l.fn.self.tapes - l.index
