use Rattle.std.specs.Prelude.{[], ◌∷◌, ◌++◌}
use Rattle.std.proofs.Common.{sym, subst}
use Rattle.std.specs.List.Sorted.{IsStrictlySortedBy}
use Rattle.group_runs.specs.Runs.{Rises}
use Rattle.test_replicas.proofs.runs.pushed.Goals as goal

pub push-pushed-requires : goal.push-pushed-requires
unfolding IsStrictlySortedBy
push-pushed-requires c = subst (λ run. Rises (run ++ (c.as_bytes.result.now, c.deref.result.now) ∷ [])) (sym c.new-run.ensures) (tt, tt)
