use Rattle.std.proofs.Common.{ℕ, ◌<◌, ◌∙◌, Some, ap, get_or, subst, sym}
use Rattle.packed_rows.specs.Columns.{kinds}
use Rattle.query_checks.specs.Checks.{kind_of_form}
use Rattle.query_checks.specs.Forms.{item_form}
use Rattle.table_print.specs.Aligned.{side_of}
use Rattle.table_print.proofs.AlignedLaws.{length-written, side_at}
use Rattle.table_print.proofs.aligned_table.side_of_item.Goals as goal

pub bounds-items-item : goal.bounds-items-item
bounds-items-item c = subst (λ (n : ℕ). c.args.item < n) (sym (length-written c.args.query.now c.items.result.now c.items.ensures))
    c.requires

pub returns : goal.returns
returns c =
    let items = c.items.result.now in
    let item = get_or items c.args.item c.index-items-item.result in
    let kind = c.kind_of_item.ensures ∙ ap (λ columns. kind_of_form (kinds columns) (item_form item.0)) c.schema.ensures.columns in
    side_at c.args.query.now items c.args.item c.index-items-item.result c.items.ensures c.requires
    ∙ ap (λ side. Some side) (sym (c.side_of.ensures ∙ ap side_of kind))
