use Rattle.std.proofs.Common.{ap, ◌∙◌, ◌==◌, Option, Some, map, option_map}
use Rattle.having_filter.proofs.Words.{Aggregate, function_of, Checked, call_form, distinct_calls}
use Rattle.having_filter.proofs.PlanLaws.{aggregate_at, column_of_call}
use Rattle.having_filter.proofs.query.Query.column.Goals as goal

pub returns : goal.returns
returns c =
    let calls = c.deref.result.now.plan.calls.items in
    let forms = (λ i. map call_form (c.deref.ensures i).plan.calls.items) ∙ c.self.invariant.plans.calls
    ∙ ap (λ (q : Checked). distinct_calls ◌==◌ q.written) c.self.view_is in
    let call = c.index.result.now in
    ap (λ (found : Option Aggregate). option_map (λ (a : Aggregate). a.column) found)
    (aggregate_at calls (distinct_calls ◌==◌ c.args.self.now.written) c.args.aggregate call forms c.requires c.index.ensures)
    ∙ ap (λ column. Some column) (column_of_call (function_of call.kind) call.column call.filter)
