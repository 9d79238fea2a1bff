use Rattle.std.specs.Prelude.{map}
use Rattle.std.proofs.Common.{ap, ◌∙◌}
use Rattle.having_filter.proofs.Words.{Checked, meaning, source_of}
use Rattle.having_filter.proofs.query.Query.sources.Goals as goal

pub returns : goal.returns
returns c = ap (map source_of) c.deref-2.ensures.value ∙ (λ i. map source_of (c.deref.ensures i).plan.items.items)
    ∙ c.self.invariant.plans.items ∙ ap (λ (q : Checked). (meaning q).items) c.self.view_is
