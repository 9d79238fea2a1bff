use Rattle.std.proofs.Common.{sym, subst}
use Rattle.group_runs.specs.Standing.{AreGroups}
use Rattle.group_runs.specs.StandingLaws.{stands_spelled, spelled_stands}
use Rattle.hash_agg.proofs.laws.one_run.Goals as goal

pub returns : goal.returns
returns c = λ query most run groups. (
  stands_spelled query most run groups,
  λ (is, all). subst (λ entries. AreGroups query most entries groups) (sym is) (spelled_stands query most groups all),
)
