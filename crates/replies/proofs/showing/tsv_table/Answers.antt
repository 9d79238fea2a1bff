use Rattle.std.proofs.Common.{◌∙◌, ap, []}
use Rattle.query_checks.specs.Checks.{Checked}
use Rattle.having_filter.specs.Kept.{headers}
use Rattle.replies.specs.Text.{text_of}
use Rattle.replies.specs.declared.showing.Format.TheVariants.{Tsv}
use Rattle.replies.proofs.showing.tsv_table.Goals as goal

pub returns : goal.returns
returns c =
    let names = headers c.query.result.now in
    let answer = c.in_ok-answer_into.ensures in
    let both = c.finish-finished.ensures names answer.0 (answer.1 names [] c.in_ok-table.ensures) in
    record {
      given = answer.0;
      answers = answer.2;
      counted = both.0;
      printed = both.1 ∙ ap (λ (q : Checked). text_of Tsv q answer.0) c.query.ensures;
    }
