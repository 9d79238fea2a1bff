use Rattle.std.proofs.Common.{◌-◌, arith}
use Rattle.spill_partitions.proofs.DigitLaws.{power_fits}
use Rattle.spill_partitions.proofs.partitions.partition_of.Goals as goal

pub pow-requires : goal.pow-requires
pow-requires c = (power_fits (7 - c.args.level) (omega arith)).1

pub nonzero_div-result : goal.nonzero_div-result
nonzero_div-result c = omega (arith, power_fits (7 - c.args.level) (omega arith), c.pow.ensures)
