use Rattle.std.proofs.Common.{drop}
use Rattle.agg_library.specs.Combinations.{CanCombine}
use Rattle.agg_library.proofs.state_row.StateRow.check_both.Given as goal

abbrev pub invariant-loop-kind : goal.invariant-loop-kind
invariant-loop-kind l =
    (CanCombine l.most (drop l.kind-index l.kinds) l.left l.other → CanCombine l.most l.kinds l.into l.from)
    × (CanCombine l.most l.kinds l.into l.from → CanCombine l.most (drop l.kind-index l.kinds) l.left l.other)
