use Rattle.std.proofs.Common.{ℕ, ◌<◌, ◌∙◌, ap, append-nil, subst, sym}
use Rattle.std.proofs.lemmas.List.{length-map}
use Rattle.having_filter.specs.Kept.{headers}
use Rattle.table_print.specs.Aligned.{header_cells, shown}
use Rattle.table_print.proofs.AlignedLaws.{header_at, length-headers, longer_row, whole_row}
use Rattle.table_print.proofs.aligned_table.push_header.Goals as goal

pub bounds-columns-item : goal.bounds-columns-item
bounds-columns-item c = c.loop-item-test.true

pub header-requires : goal.header-requires
header-requires c = subst (λ (n : ℕ). c.loop-item.item < n) (c.requires ∙ length-headers c.args.query.now) c.loop-item-test.true

pub loop-item-init : goal.loop-item-init
loop-item-init c = sym (append-nil c.args.out.now.items)

pub loop-item-preserved : goal.loop-item-preserved
loop-item-preserved c =
    let names = headers c.args.query.now in
    let same = c.requires ∙ sym (length-map names shown) in
    let here = header_at names c.loop-item.item c.header.result.now c.header.ensures ∙ ap shown (sym c.as_bytes.ensures.value) in
    longer_row c.args.columns.now (header_cells names) c.loop-item.item _ _ _ _ c.loop-item-test.true same here c.loop-item.invariant
    c.in_ok-push_cell.ensures

pub returns : goal.returns
returns c = whole_row c.args.columns.now (header_cells (headers c.args.query.now)) c.loop-item.item _ _ _ c.loop-item-test.false
    c.loop-item.invariant c.in_ok-push.ensures.items
