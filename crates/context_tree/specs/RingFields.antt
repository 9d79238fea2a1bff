-- What is true of the fields of a `Ring`.
use Rattle.std.specs.Prelude.{length}
use Rattle.context_tree.specs.Rings.{RingState, IsRing, after_at, before_at, walk}
use Rattle.context_tree.specs.declared.ring.Ring.TheInside.{Inside}

abbrev pub ring_of : Inside → RingState
ring_of r = record { slots = walk (length r.near.items) (after_at r.near.items) 0; room = length r.near.items }

abbrev pub AreFields : Inside → Type 0
AreFields r = IsRing (length r.near.items) (after_at r.near.items) (before_at r.near.items)
    (walk (length r.near.items) (after_at r.near.items) 0)
