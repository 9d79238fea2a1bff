use Rattle.std.proofs.Common.{ℕ, ◌<◌, ◌∙◌, ap, arith, length, max, sym}
use Rattle.std.specs.Fmt.{char_count}
use Rattle.agg_protocol.specs.Results.{outcome_of}
use Rattle.table_print.specs.Aligned.{shown}
use Rattle.table_print.specs.Table.{cell_text}
use Rattle.table_print.proofs.AlignedLaws.{longer_column}
use Rattle.table_print.proofs.aligned_table.width_of_column.Goals as goal

pub loop-row-preserved : goal.loop-row-preserved
loop-row-preserved c =
    let x = outcome_of c.value.result in
    let text = c.deref-in-loop-row.ensures.value ∙ c.in_ok-fill-2.ensures ∙ ap shown c.cell.ensures in
    let within : c.loop-row.row < length c.args.answer.now = omega (arith, c.len-row-end.ensures) in
    c.max-width.ensures ∙ ap (λ (n : ℕ). max c.loop-row.width n) (c.count_chars.ensures ∙ ap char_count text)
    ∙ ap (λ (n : ℕ). max n (char_count (shown (cell_text x)))) c.loop-row.invariant
    ∙ sym (longer_column (shown c.args.header.now) c.args.answer.now c.loop-row.row c.args.item x within c.value.ensures)
