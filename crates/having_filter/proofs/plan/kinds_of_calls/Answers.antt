use Rattle.std.specs.Prelude.{◌++◌, [], ◌∷◌, map}
use Rattle.std.proofs.Common.{sym, ◌∙◌, ap}
use Rattle.std.proofs.lemmas.List.{map-append, map_more, take_all}
use Rattle.agg_protocol.specs.Kinds.{function_of}
use Rattle.having_filter.proofs.plan.kinds_of_calls.Goals as goal

pub loop-call-preserved : goal.loop-call-preserved
loop-call-preserved c =
    ap (map function_of) c.in_ok-push.ensures.items
    ∙ map-append function_of c.loop-call.functions.items (c.call-item.result.kind ∷ [])
    ∙ (λ i. c.loop-call.invariant i ++ function_of (c.call-item.is i).kind ∷ [])
    ∙ sym (map_more (λ call. function_of call.kind) c.args.calls.now c.loop-call.call-index c.call-item.result c.loop-call-test.true)

pub returns : goal.returns
returns c =
    c.loop-call.invariant
    ∙ ap (map (λ call. function_of call.kind)) (take_all c.loop-call.call-index c.args.calls.now c.loop-call-test.false)
