use Rattle.std.specs.Prelude.{take, string_bytes}
use Rattle.std.proofs.Common.{sym, ◌∙◌, ap}
use Rattle.std.proofs.lemmas.List.{take-map}
use Rattle.having_filter.specs.Answers.{outcome_in, outcomes_in}
use Rattle.having_filter.proofs.cells.Values.truncate.Goals as goal

pub returns : goal.returns
returns c =
    let texts = string_bytes c.self.inside.texts in
    ap (outcomes_in texts) c.truncate.ensures.items
    ∙ sym (take-map (outcome_in texts) c.args.count c.self.inside.cells.items)
    ∙ ap (take c.args.count) c.self.view_is
