use Rattle.std.proofs.Common.{ap, ◌∙◌, Option, map, option_map}
use Rattle.grouping_model.specs.Query.{Source}
use Rattle.having_filter.proofs.Words.{Condition, is_met, outcome_of, Checked, meaning, by_sources}
use Rattle.grouping_model.specs.Answer.{outcome_at}
use Rattle.having_filter.proofs.PlanLaws.{having_in_steps}
use Rattle.having_filter.proofs.query.Query.having_true.Goals as goal

pub returns : goal.returns
returns c =
    let value = outcome_at (map outcome_of c.args.key.now) (map outcome_of c.args.results.now) in
    c.is_met.ensures ∙ having_in_steps value c.deref.result.now.plan.having
    ∙ ap (λ (having : Option (Condition Source)). is_met value having) ((λ i. option_map by_sources (c.deref.ensures i).plan.having)
    ∙ c.self.invariant.plans.having ∙ ap (λ (q : Checked). (meaning q).having) c.self.view_is)
