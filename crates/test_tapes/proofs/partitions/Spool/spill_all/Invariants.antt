use Rattle.std.proofs.Common.{◌≡◌, false}
use Rattle.test_tapes.proofs.partitions.Spool.spill_all.Given as goal

abbrev pub invariant-loop-hash : goal.invariant-loop-hash
invariant-loop-hash g l = (l.self.partitions.tapes.is_dead ≡ false) × (l.self.partitions.reading ≡ l.fn.self.partitions.reading)
