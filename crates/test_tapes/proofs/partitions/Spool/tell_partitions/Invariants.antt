use Rattle.std.proofs.Common.{◌≡◌, false, []}
use Rattle.spill_partitions.specs.Standing.{waiting_number}
use Rattle.test_tapes.proofs.partitions.Spool.tell_partitions.Given as goal

abbrev pub invariant-loop-text : goal.invariant-loop-text
invariant-loop-text g l = (l.self.partitions.tapes.is_dead ≡ false) × (l.self.partitions.partitions ≡ []) × (l.self.partitions.reading ≡ [])

abbrev pub decreases-loop-text : goal.decreases-loop-text
decreases-loop-text g l = waiting_number l.self.partitions
