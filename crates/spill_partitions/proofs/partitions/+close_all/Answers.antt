use Rattle.std.proofs.Common.{rules}
use Rattle.spill_partitions.proofs.CloseLaws.{rest_open, rest_parted}
use Rattle.spill_partitions.proofs.partitions.+close_all.Goals as goal

pub close_all-requires : goal.close_all-requires
close_all-requires g t c κs within = (
  search rules,
  (
    search rules,
    (
      rest_open (g.D.TapeDisk.last c.args.disk.now) c.args.tapes.now c.close.new.self c.args.partitions.now c.in-Some.rest.now
          c.in-Some.first.now c.in-Some.ensures.cases.0 c.close.ensures.others c.requires.apart c.requires.open,
      rest_parted c.args.partitions.now c.in-Some.rest.now c.in-Some.first.now c.in-Some.ensures.cases.0 c.requires.apart,
    ),
  ),
)
