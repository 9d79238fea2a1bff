use Rattle.std.specs.Prelude.{◌++◌, ◌∷◌, [], take}
use Rattle.std.specs.List.{All}
use Rattle.std.proofs.Common.{sym, ◌∙◌, ap, subst, append_assoc}
use Rattle.std.proofs.lemmas.List.Elements.{All-push}
use Rattle.hash_agg.specs.Passes.{IsAbbreviated, pairs}
use Rattle.hash_agg.proofs.SortLaws.{more_pairs, take_next}
use Rattle.hash_agg.proofs.sorting.push_all.Goals as goal

pub loop-place-preserved : goal.loop-place-preserved
loop-place-preserved c = (
  ap pairs c.in_ok-push.ensures.items
      ∙ more_pairs c.loop-place.entries.items c.abbreviated.result
      ∙ ap (λ group. pairs c.loop-place.entries.items ++ (group.0.now, group.1.now) ∷ []) c.abbreviated.ensures.group
      ∙ ap (λ es. es ++ (c.group.result.0.now, c.group.result.1.now) ∷ []) c.loop-place.invariant.0
      ∙ append_assoc (pairs c.args.entries.now.items) (take c.loop-place.place c.args.run.now) ((c.group.result.0.now, c.group.result.1.now)
      ∷ [])
      ∙ ap (λ es. pairs c.args.entries.now.items
      ++ es) (sym (take_next c.args.run.now c.loop-place.place c.group.result.0.now c.group.result.1.now c.group.ensures)),
  λ before. subst (All IsAbbreviated) (sym c.in_ok-push.ensures.items) (All-push IsAbbreviated c.loop-place.entries.items
      c.abbreviated.result (c.loop-place.invariant.1 before) c.abbreviated.ensures.abbreviated),
)
