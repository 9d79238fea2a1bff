use Rattle.std.specs.Prelude.{refl}
use Rattle.engine_calls.specs.declared.last.Asked.TheVariants.{Save}
use Rattle.engine_c.specs.Exports.{KeepsReason}
use Rattle.engine_c.proofs.SlotLaws.{unasked_slot}
use Rattle.engine_c.proofs.agg_save.Goals as goal

pub returns-in_default-clause-asks : goal.returns-in_default-clause-asks
returns-in_default-clause-asks c =
    unasked_slot _ _ (KeepsReason Save) _ _ _ _ _ c.in_default.ensures.none c.taken.ensures.emptied refl c.number.ensures
