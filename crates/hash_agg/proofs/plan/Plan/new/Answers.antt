use Rattle.having_filter.specs.Meaning.{meaning}
use Rattle.group_runs.specs.StandingLaws.{initial_of, states_short, states_long}
use Rattle.hash_agg.proofs.plan.Plan.new.Goals as goal

pub returns-clause-plan : goal.returns-clause-plan
returns-clause-plan c =
    let q = meaning c.args.query.now in
    let first = c.in_ok-first.first.items in
    let states = initial_of q c.agg_kinds.result.now first c.agg_kinds.ensures.functions c.in_ok-first.ensures in
    record {
      columns = c.schema-well_formed.ensures.query.columns_are;
      formed = c.schema-well_formed.ensures.query.well_formed;
      states = states;
      few = c.requires.most;
      width = states_long q 0 first _ states;
      narrow = states_short q 0 first _ c.schema-well_formed.ensures.query.well_formed.few_aggregates states;
      limit = c.requires.limit;
    }
