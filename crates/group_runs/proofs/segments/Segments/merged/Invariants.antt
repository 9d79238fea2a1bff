use Rattle.std.specs.Prelude.{◌-◌, length}
use Rattle.group_runs.proofs.Words.{functions_of, concatenated, EachQuery}
use Rattle.group_runs.proofs.PartLaws.{Merges}
use Rattle.group_runs.proofs.segments.Segments.merged.Given as goal

abbrev pub invariant-loop-from : goal.invariant-loop-from
invariant-loop-from l = EachQuery (functions_of l.kinds) (λ q. Merges q l.self (concatenated l.more) l.first l.from l.fresh.items)

abbrev pub decreases-loop-from : goal.decreases-loop-from
decreases-loop-from l = length (concatenated l.more) - l.from
