use Rattle.std.specs.Prelude.{refl}
use Rattle.engine_c.specs.Exports.{AsksReason}
use Rattle.engine_c.proofs.SlotLaws.{unasked_slot}
use Rattle.engine_c.proofs.table_in.Goals as goal

pub returns-in_default-clause-asks : goal.returns-in_default-clause-asks
returns-in_default-clause-asks c =
    unasked_slot _ _ AsksReason _ _ _ _ _ c.in_default.ensures.none c.taken.ensures.emptied refl c.number.ensures
