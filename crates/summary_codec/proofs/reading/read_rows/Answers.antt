use Rattle.packed_rows.specs.View.{kinds_of}
use Rattle.summary_codec.specs.Reading.{row}
use Rattle.summary_codec.proofs.FaultLaws.{handed_on}
use Rattle.summary_codec.proofs.LoopLaws.{read_more, read_fault, read_all}
use Rattle.summary_codec.proofs.reading.read_rows.Goals as goal

pub returns-in_err-read_row-clause-fault : goal.returns-in_err-read_row-clause-fault
returns-in_err-read_row-clause-fault c =
    handed_on c.from_residual.result c.in_err-read_row.field-0.0 _ c.from_residual.ensures.1
    (λ memory. read_fault (row (kinds_of c.args.kinds.now)) c.args.count c.args.fields.now c.loop.counter c.loop.rows c.loop.fields
    c.in_err-read_row.field-0.0 c.loop-test.true
    (c.in_err-read_row.ensures.fault memory) c.loop.invariant)

pub loop-preserved : goal.loop-preserved
loop-preserved c =
    let read = c.in_ok-read_row.ensures.read in
    read_more (row (kinds_of c.args.kinds.now)) c.args.count c.args.fields.now c.loop.counter c.loop.rows c.read_row.new.rows read.0
    c.loop.fields c.read_row.new.fields c.loop-test.true read.1 read.2 c.loop.invariant

pub returns-clause-read : goal.returns-clause-read
returns-clause-read c =
    read_all (row (kinds_of c.args.kinds.now)) c.args.count c.args.fields.now c.loop.counter c.loop.rows c.loop.fields c.loop-test.false
    c.loop.invariant
