use Rattle.std.specs.Prelude.{◌≡◌, ◌≤◌, length}
use Rattle.std.proofs.Common.{◌∙◌, ap, subst}
use Rattle.std.proofs.lemmas.List.{take_all}
use Rattle.spill_partitions.specs.Standing.{PartitionsState, count_of}
use Rattle.spill_partitions.proofs.CountLaws.{spilled_count}
use Rattle.spill_partitions.proofs.partitions.SpillPartitions.spilled.Goals as goal

pub returns : goal.returns
returns g c =
    let same : c.deref-partition-items.result.now ≡ c.args.self.now.partitions = c.deref-partition-items.ensures.value
    ∙ ap (λ (s : PartitionsState). s.partitions) c.self.view_is in
    let whole : length c.args.self.now.partitions ≤ c.loop-partition.partition-index =
    subst (λ partitions. length partitions ≤ c.loop-partition.partition-index) same c.loop-partition-test.false in
    let number : c.loop-partition.number ≡ count_of c.args.self.now.partitions = c.loop-partition.invariant.0
    ∙ ap count_of (take_all c.loop-partition.partition-index c.args.self.now.partitions whole) in
    record {
      number = number;
      count = λ spilled ahead pending has. number ∙ spilled_count (g.D.TapeDisk.last c.args._disk.now) c.args.self.now.tapes
          c.args.self.now.level c.args.self.now.partitions spilled has.spilled_are;
    }
