use Rattle.std.specs.Prelude.{◌≡◌, map, take}
use Rattle.agg_protocol.specs.Results.{outcome_of}
use Rattle.grouping_model.specs.Answer.{outcome_at}
use Rattle.having_filter.specs.Plans.{source_of}
use Rattle.group_answers.proofs.showing.items_of.Given as goal

abbrev pub invariant-loop-source : goal.invariant-loop-source
invariant-loop-source l = map outcome_of l.items.items ≡ map (outcome_at (map outcome_of l.key) (map outcome_of l.results))
    (map source_of (take l.source-index l.sources))
