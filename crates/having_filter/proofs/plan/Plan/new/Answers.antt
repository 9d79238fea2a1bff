use Rattle.std.proofs.Common.{ℕ, ap, ◌∙◌, map, get_or, List, option_map}
use Rattle.having_filter.proofs.Words.{Bigint_kind, function_of, call_form, item_form, form_of, source_of_form, group_condition}
use Rattle.query_checks.specs.declared.condition.AggCall.{AggCall}
use Rattle.having_filter.proofs.PlanLaws.{plans}
use Rattle.having_filter.proofs.plan.Plan.new.Goals as goal

pub returns : goal.returns
returns c =
    plans c.args.schema.now c.args.parts.now
    (record {
      calls = c.in_ok-calls.calls;
      kinds = c.in_ok-kinds.kinds;
      key_kinds = c.in_ok-key_kinds.key_kinds;
      items =
          c.in_ok-items.items;
      having = c.in_ok-having.having;
    })
    c.in_ok-calls.ensures
    (c.in_ok-kinds.ensures ∙ ap (λ (calls : List (AggCall ℕ)). map (λ (call : AggCall ℕ). function_of call.kind) calls)
    c.deref.ensures.value)
    (c.in_ok-key_kinds.ensures ∙ (λ i. map (λ at. get_or (c.kinds.ensures i) at Bigint_kind) (c.deref-2.ensures.value i)))
    (c.in_ok-items.ensures
    ∙ (λ i. map (λ item. source_of_form (c.deref-3.ensures.value i) (map call_form (c.deref-4.ensures.value i)) (item_form item.0))
    (c.deref-5.ensures.value i)))
    (c.in_ok-having.ensures
    ∙ (λ i. option_map (group_condition (c.deref-6.ensures.value i) (map call_form (c.deref-7.ensures.value i)))
    (option_map form_of c.args.parts.now.having)))
