use Rattle.std.specs.Prelude.{◌≤◌, vec_capacity}
use Rattle.spill_partitions.proofs.OpenLaws.{AreOpening}
use Rattle.spill_partitions.proofs.partitions.SpillPartitions.open_partitions.Given as goal

abbrev pub invariant-loop-place : goal.invariant-loop-place
invariant-loop-place g l = record {
  opening : AreOpening (g.D.TapeDisk.last l.disk) l.fn.self l.self l.level l.partitions.items l._place;
  room : 16 ≤ vec_capacity l.partitions;
}
