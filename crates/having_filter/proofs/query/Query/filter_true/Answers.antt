use Rattle.std.proofs.Common.{ap, sym, ◌∙◌, ◌==◌, Option, Some, map, option_map}
use Rattle.having_filter.proofs.Words.{Aggregate, is_met, row_of, function_of, Checked, call_form, distinct_calls, column_leaf}
use Rattle.grouping_model.specs.Grouping.{column_of}
use Rattle.having_filter.proofs.ValueLaws.{met_in_steps}
use Rattle.having_filter.proofs.PlanLaws.{aggregate_at, filter_of_call}
use Rattle.having_filter.proofs.query.Query.filter_true.Goals as goal

pub returns : goal.returns
returns c =
    let calls = c.deref.result.now.plan.calls.items in
    let forms = (λ i. map call_form (c.deref.ensures i).plan.calls.items) ∙ c.self.invariant.plans.calls
    ∙ ap (λ (q : Checked). distinct_calls ◌==◌ q.written) c.self.view_is in
    let call = c.index.result.now in
    let value = column_of (row_of c.args.row.now) in
    ap (λ (found : Option Aggregate). option_map (λ (a : Aggregate). is_met value a.filter) found)
    (aggregate_at calls (distinct_calls ◌==◌ c.args.self.now.written) c.args.aggregate call forms c.requires c.index.ensures)
    ∙ ap (λ filter. Some (is_met value filter)) (filter_of_call (function_of call.kind) call.column call.filter)
    ∙ ap (λ met. Some met) (sym (c.is_met.ensures ∙ met_in_steps value column_leaf call.filter))
