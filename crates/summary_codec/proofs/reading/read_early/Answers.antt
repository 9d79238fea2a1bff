use Rattle.std.proofs.Common.{sym, subst}
use Rattle.packed_rows.specs.Columns.{kinds}
use Rattle.summary_codec.specs.Gathered.{Rise}
use Rattle.summary_codec.proofs.GatheringLaws.{none_rise}
use Rattle.summary_codec.specs.Reading.{batch}
use Rattle.summary_codec.proofs.FaultLaws.{handed_on}
use Rattle.summary_codec.proofs.LoopLaws.{ReadSoFar, read_none, read_more, read_fault, read_all}
use Rattle.summary_codec.proofs.reading.read_early.Goals as goal

pub returns-in_err-read_batch-clause-fault : goal.returns-in_err-read_batch-clause-fault
returns-in_err-read_batch-clause-fault c =
    handed_on c.from_residual.result c.in_err-read_batch.field-0.0 _ c.from_residual.ensures.1
    (λ memory. read_fault (batch c.args.version (kinds c.args.schema.now) c.args.prefix) c.args.count c.args.fields.now c.loop.counter
    c.loop.early c.loop.fields c.in_err-read_batch.field-0.0 c.loop-test.true
    (c.in_err-read_batch.ensures.fault memory) c.loop.invariant.read)

pub loop-init : goal.loop-init
loop-init c = record {
  read = subst (λ l. ReadSoFar (batch c.args.version (kinds c.args.schema.now) c.args.prefix) c.args.count c.args.fields.now 0 l
      c.args.fields.now) (sym c.new-early.ensures)
      (read_none (batch c.args.version (kinds c.args.schema.now) c.args.prefix) c.args.count c.args.fields.now);
  rising = subst Rise (sym c.new-early.ensures) none_rise;
}

pub loop-preserved : goal.loop-preserved
loop-preserved c =
    let read = c.in_ok-read_batch.ensures.read in
    record {
      read =
          read_more (batch c.args.version (kinds c.args.schema.now) c.args.prefix) c.args.count c.args.fields.now c.loop.counter
          c.loop.early c.read_batch.new.early read.0 c.loop.fields c.read_batch.new.fields c.loop-test.true read.1 read.2
          c.loop.invariant.read;
      rising = c.in_ok-read_batch.ensures.rising;
    }

pub returns-clause-read : goal.returns-clause-read
returns-clause-read c =
    read_all (batch c.args.version (kinds c.args.schema.now) c.args.prefix) c.args.count c.args.fields.now c.loop.counter
    c.in_ok-into_map.field-0.entries c.loop.fields c.loop-test.false
    (subst (λ l. ReadSoFar (batch c.args.version (kinds c.args.schema.now) c.args.prefix) c.args.count c.args.fields.now c.loop.counter
    l c.loop.fields) (sym c.in_ok-into_map.ensures) c.loop.invariant.read)
