use Rattle.std.specs.Prelude.{◌++◌, ◌∷◌, []}
use Rattle.std.specs.List.{All}
use Rattle.std.proofs.Common.{sym, ◌∙◌, ap, subst}
use Rattle.std.proofs.lemmas.List.Elements.{All-push}
use Rattle.hash_agg.specs.Passes.{IsAbbreviated, pairs, entries_of}
use Rattle.hash_agg.proofs.SortLaws.{more_pairs, take_next}
use Rattle.hash_agg.proofs.groups.Groups.sorted.Goals as goal

pub loop-place-preserved : goal.loop-place-preserved
loop-place-preserved g c = (
  ap pairs c.in_ok-push.ensures.items
      ∙ more_pairs c.loop-place.entries.items c.abbreviated.result
      ∙ ap (λ group. pairs c.loop-place.entries.items ++ (group.0.now, group.1.now) ∷ []) c.abbreviated.ensures.group
      ∙ ap (λ es. es ++ (c.entry.result.0.now, c.entry.result.1.now) ∷ []) c.loop-place.invariant.0
      ∙ sym (take_next (entries_of c.args.self.now) c.loop-place.place c.entry.result.0.now c.entry.result.1.now c.entry.ensures),
  subst (All IsAbbreviated) (sym c.in_ok-push.ensures.items) (All-push IsAbbreviated c.loop-place.entries.items c.abbreviated.result
      c.loop-place.invariant.1 c.abbreviated.ensures.abbreviated),
)
