-- The fields of tapes.
use Rattle.spill_tapes.specs.Tapes.{TapesState, AreTapes}
use Rattle.spill_tapes.specs.declared.tapes.Tapes.TheInside.{Inside}

abbrev pub tapes_of : Inside → TapesState
tapes_of t = record { is_dead = t.is_dead; tapes = t.tapes.items; pool = t.pool }

abbrev pub AreFields : Inside → Type 0
AreFields t = AreTapes (tapes_of t)
