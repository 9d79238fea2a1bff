use Rattle.having_filter.specs.Meaning.{meaning}
use Rattle.summary_codec.specs.Reading.{group}
use Rattle.summary_codec.proofs.FaultLaws.{handed_on}
use Rattle.summary_codec.proofs.LoopLaws.{read_more, read_fault, read_all}
use Rattle.summary_codec.proofs.reading.read_run.Goals as goal

pub returns-in_err-read_group-clause-fault : goal.returns-in_err-read_group-clause-fault
returns-in_err-read_group-clause-fault c =
    handed_on c.from_residual.result c.in_err-read_group.field-0.0 _ c.from_residual.ensures.1
    (λ memory. read_fault (group (meaning c.args.query.now) c.args.most) c.args.count c.args.fields.now c.loop.counter c.loop.run
    c.loop.fields c.in_err-read_group.field-0.0 c.loop-test.true
    (c.in_err-read_group.ensures.fault memory) c.loop.invariant)

pub loop-preserved : goal.loop-preserved
loop-preserved c =
    let read = c.in_ok-read_group.ensures.read in
    read_more (group (meaning c.args.query.now) c.args.most) c.args.count c.args.fields.now c.loop.counter c.loop.run c.read_group.new.run
    read.0 c.loop.fields c.read_group.new.fields c.loop-test.true read.1 read.2 c.loop.invariant

pub returns-clause-read : goal.returns-clause-read
returns-clause-read c =
    read_all (group (meaning c.args.query.now) c.args.most) c.args.count c.args.fields.now c.loop.counter c.loop.run c.loop.fields
    c.loop-test.false c.loop.invariant
