use Rattle.std.proofs.Common.{refl}
use Rattle.group_runs.specs.StandingLaws.{states_by}
use Rattle.grouping_model.specs.Parts.{functions}
use Rattle.having_filter.specs.Meaning.{meaning}
use Rattle.summary_codec.proofs.reading.check_states.Goals as goal

pub returns-in-Err-clause-fault : goal.returns-in-Err-clause-fault
returns-in-Err-clause-fault c = (
  (λ are. c.in-Err.ensures.err are.0 (states_by (functions (meaning c.args.query.now)) c.args.most c.agg_kinds.result.now
      c.args.states.now are.0 c.agg_kinds.ensures.functions are.1)),
  refl,
)
