use Rattle.std.specs.Prelude.{◌++◌, ◌∷◌, [], ℕ, List, map}
use Rattle.std.specs.List.Sorted.{IsStrictlySortedBy}
use Rattle.std.specs.Ordering.{nat_cmp}
use Rattle.std.proofs.Common.{sym, ◌∙◌, ap, append_assoc, subst}
use Rattle.summary_codec.proofs.GatheringLaws.{rising_on}
use Rattle.summary_codec.proofs.gathering.EarlyBatches.push.Goals as goal

pub put_together-requires-2 : goal.put_together-requires-2
put_together-requires-2 c =
    let kept = c.self.inside.kept.entries in
    let batch : ℕ × List (List ℕ) = (c.args.number, c.args.rows) in
    subst (λ (l : List (ℕ × List (List ℕ))). IsStrictlySortedBy nat_cmp (map (λ (b : ℕ × List (List ℕ)). b.0) l))
    (ap (λ (l : List (ℕ × List (List ℕ))). l ++ batch ∷ []) (sym c.self.view_is)
    ∙ append_assoc kept c.self.inside.waiting.items (batch ∷ [])
    ∙ ap (λ (l : List (ℕ × List (List ℕ))). kept ++ l) (sym (c.deref-2.ensures.value ∙ c.in_ok-push.ensures.items)))
    (rising_on c.args.self.now batch c.requires.rising c.requires.next)
