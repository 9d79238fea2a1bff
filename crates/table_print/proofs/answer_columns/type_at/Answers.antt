use Rattle.std.proofs.Common.{ℕ, ◌<◌, ◌∙◌, [], Some, ap, get_or, subst, sym}
use Rattle.packed_rows.specs.Columns.{kinds}
use Rattle.query_checks.specs.Forms.{item_form}
use Rattle.table_print.specs.AnswerColumns.{item_type}
use Rattle.table_print.proofs.AlignedLaws.{length-written, told_at}
use Rattle.table_print.proofs.answer_columns.type_at.Goals as goal

pub bounds-items-item : goal.bounds-items-item
bounds-items-item c = subst (λ (n : ℕ). c.args.item < n) (sym (length-written c.args.query.now c.items.result.now c.items.ensures))
    c.requires

pub returns : goal.returns
returns c =
    let items = c.items.result.now in
    let item = get_or items c.args.item c.index-items-item.result in
    told_at (item_type (kinds c.args.query.now.columns)) c.args.query.now items c.args.item c.index-items-item.result [] c.items.ensures
    c.requires
    ∙ ap (λ type_name. Some type_name)
    (sym (c.item_type.ensures ∙ ap (λ columns. item_type (kinds columns) (item_form item.0)) c.schema.ensures.columns))
