use Rattle.std.proofs.Common.{ℕ, List, ◌<◌, ◌≤◌, ◌∙◌, [], ◌∷◌, ◌++◌, ap, arith, length, map, subst, sym, take}
use Rattle.std.proofs.lemmas.List.{take_all}
use Rattle.having_filter.specs.Kept.{headers}
use Rattle.table_print.specs.Aligned.{columns_of, header_cells, row_cells, sides}
use Rattle.table_print.specs.declared.aligned_table.Column.{Column}
use Rattle.table_print.proofs.AlignedLaws.{length-columns_of, length-items, length-sides, length-written, one_more_column}
use Rattle.table_print.proofs.aligned_table.columns_of_answer.Goals as goal

pub side_of_item-side-requires : goal.side_of_item-side-requires
side_of_item-side-requires c =
    subst (λ (n : ℕ). c.loop-item.item < n) (length-written c.args.query.now c.items-item-end.result.now c.items-item-end.ensures)
    c.loop-item-test.true

pub header-requires : goal.header-requires
header-requires c =
    subst (λ (n : ℕ). c.loop-item.item < n) (length-written c.args.query.now c.items-item-end.result.now c.items-item-end.ensures)
    c.loop-item-test.true

pub width_of_column-requires : goal.width_of_column-requires
width_of_column-requires c = λ k d within.
    let items = length-written c.args.query.now c.items-item-end.result.now c.items-item-end.ensures in
    subst (λ (n : ℕ). c.loop-item.item < n) (items ∙ sym (c.requires k d within ∙ length-items c.args.query.now)) c.loop-item-test.true

pub loop-item-init : goal.loop-item-init
loop-item-init c = c.new-columns.ensures.items

pub loop-item-preserved : goal.loop-item-preserved
loop-item-preserved c =
    let q = c.args.query.now in
    let n = c.loop-item.item in
    let side = c.side_of_item-side.result in
    let rows = map row_cells c.args.answer.now in
    let before = take n (columns_of (sides q) (header_cells (headers q) ∷ rows)) in
    c.in_ok-push.ensures.items ∙ ap (λ (l : List Column). l ++ record { side = side; width = c.in_ok-width.width }
    ∷ []) c.loop-item.invariant
    ∙ ap (λ (width : ℕ). before ++ record { side = side; width = width } ∷ []) c.in_ok-width.ensures
    ∙ sym (one_more_column (sides q) (headers q) rows n side c.header.result.now c.side_of_item-side.ensures c.header.ensures)

pub returns : goal.returns
returns c =
    let q = c.args.query.now in
    let lines = header_cells (headers q) ∷ map row_cells c.args.answer.now in
    let many = length-written q c.items-item-end.result.now c.items-item-end.ensures in
    let all : length (columns_of (sides q) lines) ≤ c.loop-item.item = omega (
      arith,
      length-columns_of (sides q) lines,
      length-sides q,
      many,
      c.loop-item-test.false,
    ) in
    c.loop-item.invariant ∙ take_all c.loop-item.item (columns_of (sides q) lines) all
