use Rattle.std.proofs.Common.{◌∙◌, sym, ap, arith, length}
use Rattle.packed_rows.specs.View.{kind_of}
use Rattle.std.proofs.lemmas.List.{length-map}
use Rattle.packed_rows.proofs.RowLaws.{bad_column, next_column}
use Rattle.packed_rows.specs.Columns.{Column, kinds}
use Rattle.packed_rows.proofs.rows.pack_row.Goals as goal

pub returns-in_default-clause-refused : goal.returns-in_default-clause-refused
returns-in_default-clause-refused c =
    bad_column c.kinds-kind-items.result.now (kinds c.args.schema.now) c.args.fields.now c.loop-column.column _ c.loop-column.out.items
    c.kinds-kind-items.ensures c.loop-column-test.true (c.if-fields-width.false ∙ c.width.ensures.width
    ∙ sym (length-map c.args.schema.now (λ (x : Column). x.kind))) c.loop-column.invariant c.in_default.ensures.bad

pub loop-column-preserved : goal.loop-column-preserved
loop-column-preserved c =
    rw c.in_ok-pack_value.ensures (next_column c.kinds-kind-items.result.now (kinds c.args.schema.now) c.args.fields.now
    c.loop-column.column _ c.loop-column.out.items _ c.kinds-kind-items.ensures c.loop-column-test.true (c.if-fields-width.false
    ∙ c.width.ensures.width ∙ sym (length-map c.args.schema.now (λ (x : Column). x.kind))) c.loop-column.invariant
    c.in-Some.ensures.found)

pub bounds-fields-column : goal.bounds-fields-column
bounds-fields-column c =
    omega (
      arith,
      ap length c.kinds-kind-items.ensures,
      length-map c.kinds-kind-items.result.now kind_of,
      c.if-fields-width.false
          ∙ c.width.ensures.width ∙ sym (length-map c.args.schema.now (λ (x : Column). x.kind)),
    )

pub offset_bounds-fields-column : goal.offset_bounds-fields-column
offset_bounds-fields-column c =
    let most = c.width.ensures.columns.most in
    record {
      fits = omega (
        arith,
        ap length c.kinds-kind-items.ensures,
        length-map c.kinds-kind-items.result.now kind_of,
        length-map
            c.args.schema.now (λ (x : Column). x.kind),
      );
    }
