use Rattle.std.specs.Prelude.{◌≡◌, map, flat_map, take}
use Rattle.grouping_model.specs.Rising.{is_among}
use Rattle.grouping_model.specs.World.{Batch, batch_cmp}
use Rattle.replica_merge.specs.Lacking.{is_listed, batches_listed}
use Rattle.replica_merge.specs.Replicas.{known_of}
use Rattle.replica_merge.proofs.listing.Listed.new.Given as goal

abbrev pub invariant-loop-entry : goal.invariant-loop-entry
invariant-loop-entry l =
    (batch : Batch) → is_listed l.listed batch ≡ is_among batch_cmp batch (flat_map batches_listed (map known_of (take l.entry-index l.known)))
