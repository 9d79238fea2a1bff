use Rattle.std.proofs.Common.{◌∙◌, ap, []}
use Rattle.query_checks.specs.Checks.{Checked}
use Rattle.having_filter.specs.Kept.{headers}
use Rattle.replies.specs.Text.{text_of}
use Rattle.replies.specs.declared.showing.Format.TheVariants.{Csv}
use Rattle.replies.proofs.showing.csv_table.Goals as goal

pub returns : goal.returns
returns c =
    let names = headers c.query.result.now in
    let answer = c.in_ok-answer_into.ensures in
    let both = c.in_ok-finished.ensures.text names answer.0 (answer.1.rows names [] c.in_ok-table.ensures) in
    record {
      given = answer.0;
      answers = answer.2;
      counted = both.0;
      printed = both.1 ∙ ap (λ (q : Checked). text_of Csv q answer.0) c.query.ensures;
    }
