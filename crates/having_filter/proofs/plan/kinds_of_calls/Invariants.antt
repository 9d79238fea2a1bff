use Rattle.std.specs.Prelude.{◌≡◌, map, take}
use Rattle.agg_protocol.specs.Kinds.{function_of}
use Rattle.having_filter.proofs.plan.kinds_of_calls.Given as goal

abbrev pub invariant-loop-call : goal.invariant-loop-call
invariant-loop-call l = map function_of l.functions.items ≡ map (λ call. function_of call.kind) (take l.call-index l.calls)
