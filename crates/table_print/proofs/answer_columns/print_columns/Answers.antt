use Rattle.std.proofs.Common.{ℕ, List, ◌<◌, ◌≤◌, ◌∙◌, ◌++◌, ap, arith, length}
use Rattle.table_print.specs.AnswerColumns.{answer_column}
use Rattle.table_print.proofs.AlignedLaws.{length-written}
use Rattle.table_print.proofs.AnswerColumnLaws.{longer_columns, whole_columns}
use Rattle.table_print.proofs.answer_columns.print_columns.Goals as goal

pub loop-item-preserved : goal.loop-item-preserved
loop-item-preserved c =
    let column = answer_column (c.header.result.now, c.type_at.result.now) in
    longer_columns c.args.query.now c.loop-item.item c.header.result.now c.type_at.result.now c.loop-item.text.items
    c.push_column.new.out.items c.header.ensures c.type_at.ensures c.loop-item.invariant
    (c.in_ok-push_column.ensures ∙ ap (λ (l : List ℕ). l ++ column) c.in_ok-push_separator.ensures)

pub returns : goal.returns
returns c =
    let items = length-written c.args.query.now c.items-item-end.result.now c.items-item-end.ensures in
    let all : length c.args.query.now.written.items ≤ c.loop-item.item = omega (arith, items, c.loop-item-test.false) in
    whole_columns c.args.query.now c.loop-item.item c.loop-item.text.items all c.loop-item.invariant
