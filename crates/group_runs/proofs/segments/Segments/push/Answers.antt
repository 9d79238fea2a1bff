use Rattle.std.specs.Prelude.{◌++◌, ◌∷◌, []}
use Rattle.std.proofs.Common.{sym, subst}
use Rattle.group_runs.specs.Runs.{Rises}
use Rattle.group_runs.proofs.SegmentLaws.{one_rises}
use Rattle.group_runs.proofs.segments.Segments.push.Goals as goal

pub push-requires : goal.push-requires
push-requires c = subst (λ es. Rises (es ++ (c.args.key.now, c.args.states.now) ∷ [])) (sym c.in_ok-segment.ensures)
    (one_rises (c.args.key.now, c.args.states.now))
