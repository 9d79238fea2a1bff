use Rattle.std.proofs.Common.{◌≡◌, ◌∙◌, length, sym, arith}
use Rattle.csv.specs.Records.{fields_of}
use Rattle.packed_rows.specs.Columns.{kinds}
use Rattle.batch_reader.proofs.RecordLaws.{all_fields, bad_field, next_field}
use Rattle.batch_reader.proofs.rows.pack_record.Goals as goal

pub returns-in_default-clause-refused : goal.returns-in_default-clause-refused
returns-in_default-clause-refused c =
    let bad = rw c.field.ensures at c.in_default.ensures.bad in
    bad_field c.kinds-kinds.result.now (kinds c.args.schema.now) c.args.row (fields_of c.args.csv_record.now) c.loop-column.column
    c.loop-column.packed.items
    c.kinds-kinds.ensures (sym c.len.ensures ∙ c.if-len-kinds.false) c.loop-column-test.true c.loop-column.invariant bad

pub loop-column-preserved : goal.loop-column-preserved
loop-column-preserved c =
    let reads = rw c.field.ensures at c.in-Some.ensures.found in
    rw c.in_ok-pack_value.ensures
    (next_field c.kinds-kinds.result.now (kinds c.args.schema.now) (fields_of c.args.csv_record.now) c.loop-column.column
    c.loop-column.packed.items _
    c.kinds-kinds.ensures (sym c.len.ensures ∙ c.if-len-kinds.false) c.loop-column-test.true c.loop-column.invariant reads)

pub returns-clause-packed : goal.returns-clause-packed
returns-clause-packed c =
    let high = c.loop-column.auto.column-end in
    let low = c.loop-column-test.false in
    let all : length c.kinds-kinds.result.now ≡ c.loop-column.column = omega (arith, high, low) in
    all_fields c.kinds-kinds.result.now (kinds c.args.schema.now) (fields_of c.args.csv_record.now) c.loop-column.column
    c.loop-column.packed.items
    c.kinds-kinds.ensures (sym c.len.ensures ∙ c.if-len-kinds.false) all c.loop-column.invariant
