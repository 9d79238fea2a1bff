use Rattle.std.proofs.Common.{[]}
use Rattle.having_filter.specs.Kept.{headers}
use Rattle.table_print.proofs.csv_table.print_csv.Goals as goal

pub returns : goal.returns
returns c =
    let names = headers c.args.query.now in
    (c.in_ok-finished.ensures.text names c.args.answer.now (c.in_ok-push_answer.ensures.rows names [] c.in_ok-table.ensures)).1
