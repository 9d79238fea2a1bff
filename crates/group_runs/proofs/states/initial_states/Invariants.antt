use Rattle.std.specs.Prelude.{◌≡◌, length, take}
use Rattle.agg_protocol.specs.Kinds.{row_width}
use Rattle.group_runs.proofs.states.initial_states.Given as goal

abbrev pub invariant-loop-kind : goal.invariant-loop-kind
invariant-loop-kind l = length l.states.items ≡ row_width (take l.kind-index l.kinds)
