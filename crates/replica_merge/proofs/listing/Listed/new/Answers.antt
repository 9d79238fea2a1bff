use Rattle.std.specs.Prelude.{map, flat_map}
use Rattle.std.proofs.Common.{◌∙◌, sym, ap}
use Rattle.std.proofs.lemmas.List.{take_all}
use Rattle.grouping_model.specs.Rising.{is_among}
use Rattle.grouping_model.specs.World.{batch_cmp}
use Rattle.grouping_model.specs.KnowledgeLaws.{knows_knowing}
use Rattle.replica_merge.specs.Lacking.{batches_listed}
use Rattle.replica_merge.specs.Replicas.{known_of}
use Rattle.replica_merge.proofs.listing.Listed.new.Goals as goal

pub returns : goal.returns
returns c = λ batch.
    c.loop-entry.invariant batch
    ∙ ap (λ list. is_among batch_cmp batch (flat_map batches_listed (map known_of list)))
    (take_all c.loop-entry.entry-index c.args.known.now c.loop-entry-test.false)
    ∙ sym (knows_knowing (flat_map batches_listed (map known_of c.args.known.now)) batch)
