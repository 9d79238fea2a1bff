use Rattle.std.proofs.Common.{[]}
use Rattle.having_filter.specs.Kept.{headers}
use Rattle.table_print.proofs.json_table.print_json.Goals as goal

pub returns : goal.returns
returns c =
    let names = headers c.args.query.now in
    (c.finish-finished.ensures names c.args.answer.now (c.in_ok-push_answer.ensures names [] c.in_ok-table.ensures)).1
