use Rattle.std.proofs.Common.{◌∙◌, ◌<◌, ◌++◌, ap, arith, codes, get_or, length, replicate}
use Rattle.table_print.proofs.AlignedLaws.{longer_line, no_column, whole_line}
use Rattle.table_print.specs.declared.aligned_table.Column.{Column}
use Rattle.table_print.proofs.aligned_table.push_rule.Goals as goal

pub loop-item-preserved : goal.loop-item-preserved
loop-item-preserved c =
    let columns = c.args.columns.now in
    let n = c.loop-item.item in
    let within : n < length columns = omega arith in
    let dashes = replicate (get_or columns n no_column).width 45 in
    longer_line (λ (column : Column). replicate column.width 45) (codes "-+-") columns n no_column _ _ _ within c.loop-item.invariant
    (c.in_ok-push_repeated.ensures ∙ ap (λ l. l ++ dashes) c.in_ok-push_separator.ensures)

pub returns : goal.returns
returns c =
    whole_line (λ (column : Column). replicate column.width 45) (codes "-+-") c.args.columns.now c.loop-item.item _ _ _
    c.loop-item-test.false c.loop-item.invariant c.in_ok-push.ensures.items
