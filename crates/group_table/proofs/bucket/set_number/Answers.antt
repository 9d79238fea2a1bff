use Rattle.std.proofs.Common.{◌∙◌, arith, ap, length}
use Rattle.group_table.proofs.BucketLaws.{number_set, number_before, number_behind}
use Rattle.group_table.proofs.bucket.set_number.Goals as goal

pub returns-clause-set : goal.returns-clause-set
returns-clause-set c = number_set c.args.at c.args.number _ c.args.bytes.now c.copy_from_slice.new.self (c.copy_from_slice.ensures.after
    ∙ c.to_be_bytes.ensures) c.ranges.number.fits (omega (arith, c.requires))

pub returns-clause-before : goal.returns-clause-before
returns-clause-before c other low = number_before c.args.at _ other c.args.bytes.now c.copy_from_slice.new.self (omega (arith, c.requires))
    low

pub returns-clause-behind : goal.returns-clause-behind
returns-clause-behind c other high = number_behind c.args.at _ other c.args.bytes.now c.copy_from_slice.new.self (omega arith)
    (ap length (c.copy_from_slice.ensures.after ∙ c.to_be_bytes.ensures)) (omega (arith, c.requires)) high
