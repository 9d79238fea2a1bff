use Rattle.std.proofs.Common.{subst}
use Rattle.hash_agg.proofs.Words.{HasKinds, Query, functions, row_of, meaning}
use Rattle.group_runs.specs.StandingLaws.{states_by}
use Rattle.agg_library.specs.StateRowLaws.{all_raised}
use Rattle.hash_agg.proofs.plan.Plan.check_group.Goals as goal

pub returns-in-Ok-clause-stands : goal.returns-in-Ok-clause-stands
returns-in-Ok-clause-stands c =
    let found = c.in_ok-unpack.ensures.row in
    let denoted = c.in-Ok.ensures.ok in (
      (row_of c.unpack.new.row.items, denoted.0),
      record {
        key = found.1;
        of_kinds = subst (λ kinds. HasKinds kinds (row_of c.unpack.new.row.items)) c.key_kinds-2.ensures found.0;
        states = record { kinds = c.agg_kinds.result.now; named = c.agg_kinds.ensures.functions; denote = denoted.1 };
      },
    )

pub returns-clause-undamaged : goal.returns-clause-undamaged
returns-clause-undamaged c =
    λ most group low stands.
    let q : Query = meaning c.args.self.now.query.now in
    absurd
    (c.in-Err.ensures.err group.1
    (all_raised most c.args.self.now.most c.agg_kinds.result.now c.args.states.now group.1 low
    (states_by (functions q) most c.agg_kinds.result.now c.args.states.now group.1 c.agg_kinds.ensures.functions stands.states)))
