use Rattle.std.specs.Prelude.{◌≡◌, ◌||◌, map, take}
use Rattle.grouping_model.specs.Rising.{is_among}
use Rattle.grouping_model.specs.World.{Batch, batch_cmp}
use Rattle.replica_merge.specs.Lacking.{is_listed}
use Rattle.replica_merge.proofs.listing.Listed.add.Given as goal

abbrev pub invariant-loop-number : goal.invariant-loop-number
invariant-loop-number l =
    (batch : Batch) → is_listed l.self batch
    ≡ (is_listed l.initial.self batch || is_among batch_cmp batch (map (λ n. (l.entry.origin, n)) (take l.number-index l.entry.early.items)))
