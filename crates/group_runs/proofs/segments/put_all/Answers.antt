use Rattle.std.specs.Prelude.{◌≡◌, ℕ, ◌++◌, ◌∷◌, ◌<◌, List, [], length}
use Rattle.std.specs.List.{AllByRecursion}
use Rattle.std.proofs.Common.{sym, ◌∙◌, ap, subst}
use Rattle.std.proofs.lemmas.List.{length-set}
use Rattle.group_runs.proofs.Words.{each_front, Entry, replaced}
use Rattle.group_runs.proofs.SegmentLaws.{replaced_more}
use Rattle.group_runs.proofs.segments.put_all.Goals as goal

pub loop-at-preserved : goal.loop-at-preserved
loop-at-preserved c =
    let items : c.loop-at.fresh.items ≡ c.pop.new.self.items ++ (c.in-Some.at, c.in-Some.segment) ∷ [] = c.in-Some.ensures.items in
    record {
      left =
          sym (replaced_more c.pop.new.self.items (c.in-Some.at, c.in-Some.segment) c.loop-at.segments.items)
          ∙ ap (λ fresh. replaced fresh c.loop-at.segments.items) (sym items)
          ∙ c.loop-at.invariant.left;
      there =
          subst (λ n. AllByRecursion (λ (one : ℕ × List Entry). one.0 < n) c.pop.new.self.items)
          (sym (length-set c.loop-at.segments.items c.in-Some.at c.in-Some.segment))
          (each_front (λ (one : ℕ × List Entry). one.0 < length c.loop-at.segments.items) c.pop.new.self.items
          ((c.in-Some.at, c.in-Some.segment) ∷ [])
          (subst (AllByRecursion (λ (one : ℕ × List Entry). one.0 < length c.loop-at.segments.items)) items c.loop-at.invariant.there));
    }
