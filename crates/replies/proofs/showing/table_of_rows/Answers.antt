use Rattle.std.proofs.Common.{◌∙◌, ap}
use Rattle.query_checks.specs.Checks.{Checked}
use Rattle.replies.specs.Text.{text_of}
use Rattle.replies.proofs.showing.table_of_rows.Goals as goal

pub returns : goal.returns
returns c = record {
  given = c.in_ok-answer.answer;
  answers = record {
    width = c.in_ok-answer.ensures.width;
    shown = c.in_ok-answer.ensures.rows;
    of_world = c.in_ok-answer.ensures.answer;
  };
  counted = c.len.ensures;
  printed = c.in_ok-text.ensures ∙ ap (λ (q : Checked). text_of c.args.format q c.in_ok-answer.answer) c.query.ensures;
}
