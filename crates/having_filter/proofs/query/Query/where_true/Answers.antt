use Rattle.std.proofs.Common.{ap, ◌∙◌, option_map}
use Rattle.having_filter.proofs.Words.{is_met, row_of, form_of, Checked, column_leaf, row_condition}
use Rattle.grouping_model.specs.Grouping.{column_of}
use Rattle.having_filter.proofs.ValueLaws.{met_in_steps}
use Rattle.having_filter.proofs.query.Query.where_true.Goals as goal

pub returns : goal.returns
returns c =
    c.is_met.ensures ∙ met_in_steps (column_of (row_of c.args.row.now)) column_leaf c.deref.result.now.parts.condition
    ∙ (λ i. is_met (column_of (row_of c.args.row.now)) (option_map row_condition (option_map form_of (c.deref.ensures i).parts.condition)))
    ∙ ap (λ (q : Checked). is_met (column_of (row_of c.args.row.now)) (option_map row_condition q.written.condition)) c.self.view_is
