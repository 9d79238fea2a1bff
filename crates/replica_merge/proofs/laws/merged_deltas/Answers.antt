use Rattle.std.specs.Prelude.{◌≡◌, refl, true}
use Rattle.std.proofs.Common.{◌∙◌, ap, sym}
use Rattle.grouping_model.specs.World.{Knowledge}
use Rattle.replica_merge.specs.Lacking.{IsWithin, lacked}
use Rattle.replica_merge.specs.Lemmas.Words.{union, Parts, told}
use Rattle.replica_merge.specs.Lemmas.MergedLaws.{merges_told, merges_fit}
use Rattle.replica_merge.proofs.LackingLaws.{lacked_suffices}
use Rattle.replica_merge.proofs.SameFiles.{same_bytes}
use Rattle.replica_merge.proofs.laws.merged_deltas.Goals as goal

-- what is told after both merges
same_told : (own theirs delta whole some : Parts) (known : Knowledge) → IsWithin known (told own) → told delta ≡ lacked (told theirs) known
    → told whole ≡ union (told own) (told theirs) → told some ≡ union (told own) (told delta) → told some ≡ told whole
same_told own theirs delta whole some known within is all less =
    less ∙ ap (union (told own)) is ∙ lacked_suffices (told own) (told theirs) known within ∙ sym all

pub returns : goal.returns
returns c = record {
  knowledge = λ h i query own theirs delta whole some known within is all less.
      same_told own theirs delta whole some known within is
      (merges_told h query own theirs whole all.own_held all.their_held all.new_held.rising all.merges)
      (merges_told i query own delta some less.own_held less.their_held less.new_held.rising less.merges);
  files = λ world query own theirs delta whole some known within is all less bytes those.
      same_bytes world query some whole bytes those less.new_held all.new_held
      (merges_fit true refl query own delta some less.merges world less.of_columns less.own_fits less.their_fits)
      (merges_fit true refl query own theirs whole all.merges world all.of_columns all.own_fits all.their_fits)
      (same_told own theirs delta whole some known within is
      (merges_told true query own theirs whole all.own_held all.their_held all.new_held.rising all.merges)
      (merges_told true query own delta some less.own_held less.their_held less.new_held.rising less.merges));
}
