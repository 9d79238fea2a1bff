use Rattle.std.specs.Prelude.{ℕ, ◌-◌, List, length, slice_get}
use Rattle.std.proofs.Common.{sym, ◌∙◌, ap}
use Rattle.summary_codec.proofs.GatheringLaws.{last_of_both, last_of_first}
use Rattle.summary_codec.proofs.gathering.EarlyBatches.last.Goals as goal

pub returns-in-Some : goal.returns-in-Some
returns-in-Some c =
    last_of_both (λ (b : ℕ × List (List ℕ)). b.0) c.self.inside.kept.entries c.self.inside.waiting.items c.args.self.now c.in-Some.field-0.now
    c.self.view_is
    (ap (λ (l : List (ℕ × List (List ℕ))). slice_get l (length l - 1)) (sym c.deref.ensures.value) ∙ sym c.in-Some.ensures.value)

pub returns-in-Some-last_key_value : goal.returns-in-Some-last_key_value
returns-in-Some-last_key_value c =
    last_of_first (λ (b : ℕ × List (List ℕ)). b.0) c.self.inside.kept.entries c.self.inside.waiting.items c.args.self.now
    (c.in-Some-last_key_value.number.now, c.in-Some-last_key_value.field-0-1.now) c.self.view_is
    (c.in_default.ensures.value ∙ ap (λ (l : List (ℕ × List (List ℕ))). slice_get l (length l - 1)) c.deref.ensures.value)
    c.in-Some-last_key_value.ensures.last
