use Rattle.std.specs.Prelude.{◌++◌}
use Rattle.std.proofs.Common.{◌∙◌, ap}
use Rattle.std.proofs.lemmas.Result.{IfOk-weaker}
use Rattle.grouping_model.specs.Order.{map_arrangement, arranged}
use Rattle.having_filter.specs.Meaning.{order_term}
use Rattle.group_answers.proofs.showing.finalize_and_project.Goals as goal

pub returns : goal.returns
returns c =
    let given = c.in_ok-project_into.ensures.given in
    IfOk-weaker c.arranged.result _ _
    (λ answer is most groups low are.
    let rows = given.1 ∙ ap (λ those. those ++ given.0) c.new-rows.ensures ∙ given.2 most groups low are in
    is ∙ (λ i. arranged (map_arrangement order_term (c.arrangement.ensures i)) (rows i)))
    c.arranged.ensures.arranged
