use Rattle.std.proofs.Common.{ap, ◌∙◌}
use Rattle.having_filter.proofs.Words.{kinds_of, Checked, meaning, key_kinds}
use Rattle.having_filter.proofs.query.Query.key_kinds.Goals as goal

pub returns : goal.returns
returns c = ap kinds_of c.deref-2.ensures.value ∙ (λ i. kinds_of (c.deref.ensures i).plan.key_kinds.items)
    ∙ c.self.invariant.plans.key_kinds ∙ ap (λ (q : Checked). key_kinds (meaning q)) c.self.view_is
