use Rattle.std.proofs.Common.{◌∙◌, ap}
use Rattle.std.proofs.lemmas.List.Folds.{flat_map-map}
use Rattle.grouping_model.specs.World.{knowing}
use Rattle.replica_merge.specs.Lacking.{batches_listed, told_by}
use Rattle.replica_merge.specs.Lemmas.Words.{known_part}
use Rattle.replica_merge.specs.Lemmas.ToldLaws.{known_told}
use Rattle.replica_merge.proofs.laws.told_lists.Goals as goal

pub returns : goal.returns
returns c = λ query parts held.
    ap told_by (known_told query parts held) ∙ ap knowing (flat_map-map batches_listed known_part parts)
