use Rattle.std.specs.Prelude.{[], ◌≡◌, ◌<◌, length}
use Rattle.std.proofs.Common.{refl, arith}
use Rattle.std.proofs.lemmas.Result.{err_from_is_err_and}
use Rattle.packed_rows.specs.Columns.{kinds}
use Rattle.batch_reader.specs.Rows.{records_of}
use Rattle.batch_reader.specs.Lemmas.RecordLaws.{rows_more, rows_all}
use Rattle.batch_reader.proofs.RecordLaws.{first_fault, record_at, records_long}
use Rattle.batch_reader.proofs.rows.pack_records.Goals as goal

pub loop-row-init : goal.loop-row-init
loop-row-init c = ([], tt, c.new-rows.ensures)

pub returns-in_err-push_record-clause-refused : goal.returns-in_err-push_record-clause-refused
returns-in_err-push_record-clause-refused c =
    let p = err_from_is_err_and c.from_residual.result c.from_residual.ensures.1 in
    let records = c.args.records.now in
    let within : c.loop-row.row < length (records_of records) = let h = c.loop-row-test.true in let e = records_long records in omega
    (arith, h, e) in
    rw (p.1, p.2) (first_fault (kinds c.args.schema.now) (records_of records) c.loop-row.row _ _ _ within
    (record_at records c.loop-row.row c.index-records-row.result c.loop-row-test.true c.index-records-row.is) c.loop-row.invariant
    c.in_err-push_record.ensures.refused)

pub loop-row-preserved : goal.loop-row-preserved
loop-row-preserved c =
    let records = c.args.records.now in
    let i = c.loop-row.row in
    let within : i < length (records_of records) = let h = c.loop-row-test.true in let e = records_long records in omega (arith, h, e) in
    let row = c.in_ok-push_record.ensures.pushed in
    rw row.2 (rows_more (kinds c.args.schema.now) (records_of records) i c.loop-row.rows _ row.0 _ within
    (record_at records i c.index-records-row.result c.loop-row-test.true c.index-records-row.is) row.1 refl c.loop-row.invariant)

pub returns-clause-packed : goal.returns-clause-packed
returns-clause-packed c =
    let records = c.args.records.now in
    let high = c.loop-row.auto.row-end in
    let low = c.loop-row-test.false in
    let long : length (records_of records) ≡ c.loop-row.row = let e = records_long records in omega (arith, e, high, low) in
    rows_all (kinds c.args.schema.now) (records_of records) c.loop-row.row c.loop-row.rows long c.loop-row.invariant
