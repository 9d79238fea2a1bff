use Rattle.std.proofs.Common.{ap, ◌∙◌}
use Rattle.std.specs.Prelude.{sum_by}
use Rattle.grouping_model.specs.Query.{Query}
use Rattle.agg_protocol.specs.States.{shape_of, width_of}
use Rattle.having_filter.specs.Meaning.{meaning}
use Rattle.agg_library.specs.StateRowLaws.{fits}
use Rattle.summary_codec.specs.Lemmas.GroupLaws.{width_by_functions}
use Rattle.summary_codec.proofs.reading.width_of_states.Goals as goal

pub width-requires : goal.width-requires
width-requires c =
    let q : Query = meaning c.args.query.now in
    fits c.agg_kinds.result.now q.aggregates c.agg_kinds.ensures.functions c.agg_kinds.ensures.query.well_formed.few_aggregates

pub returns : goal.returns
returns c =
    c.width.ensures ∙ width_by_functions c.agg_kinds.result.now
    ∙ ap (sum_by (λ function. width_of (shape_of function))) c.agg_kinds.ensures.functions
