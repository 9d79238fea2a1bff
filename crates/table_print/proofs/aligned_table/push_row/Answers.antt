use Rattle.std.proofs.Common.{◌∙◌, [], ap, slice_index_or, sym}
use Rattle.std.proofs.lemmas.List.{length-map}
use Rattle.agg_protocol.specs.Results.{outcome_of}
use Rattle.table_print.specs.Aligned.{row_cells, shown}
use Rattle.table_print.specs.Table.{cell_text}
use Rattle.table_print.proofs.AlignedLaws.{cell_at, longer_row, whole_row}
use Rattle.table_print.proofs.aligned_table.push_row.Goals as goal

pub loop-item-preserved : goal.loop-item-preserved
loop-item-preserved c =
    let row = slice_index_or c.args.answer.now c.args.row [] in
    let same = c.requires.width ∙ sym (length-map row (λ value. shown (cell_text value))) in
    let here = cell_at row c.loop-item.item (outcome_of c.value.result) c.value.ensures ∙ ap shown (sym c.cell-text.ensures) in
    longer_row c.args.columns.now (row_cells row) c.loop-item.item _ _ _ _ c.loop-item-test.true same here c.loop-item.invariant
    c.in_ok-push_cell.ensures

pub returns : goal.returns
returns c =
    let row = slice_index_or c.args.answer.now c.args.row [] in
    whole_row c.args.columns.now (row_cells row) c.loop-item.item _ _ _ c.loop-item-test.false c.loop-item.invariant
    c.in_ok-push.ensures.items
