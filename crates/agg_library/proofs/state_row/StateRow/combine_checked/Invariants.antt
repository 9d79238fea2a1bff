use Rattle.std.proofs.Common.{ℕ, List, ◌≡◌, ◌<◌, ◌≤◌, ◌^◌, ◌++◌, drop, length, take}
use Rattle.agg_library.specs.Combinations.{CanCombine, Combines}
use Rattle.agg_library.proofs.state_row.StateRow.combine_checked.Given as goal

abbrev pub invariant-loop-kind : goal.invariant-loop-kind
invariant-loop-kind l =
    (l.start ≤ length l.fn.into) × (l.start ≤ length l.from) × (drop l.start l.into ≡ drop l.start l.fn.into)
    × CanCombine l.most (drop l.kind-index l.kinds) (drop l.start l.fn.into) (drop l.start l.from)
    × ((rest : List ℕ) → Combines l.most (drop l.kind-index l.kinds) (drop l.start l.fn.into) (drop l.start l.from) rest
    → Combines l.most l.kinds l.fn.into l.from (take l.start l.into ++ rest))
    × (length l.fn.into < 2 ^ 64)
