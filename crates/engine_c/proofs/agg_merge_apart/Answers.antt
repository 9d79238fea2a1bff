use Rattle.engine.specs.declared.status.Status.TheVariants.{NotOpen}
use Rattle.engine_c.proofs.SlotLaws.{empty_slot, merges_into_none, reasons_of_none, unmerged_slot}
use Rattle.engine_c.proofs.agg_merge_apart.Goals as goal

pub returns-in_default-clause-merges : goal.returns-in_default-clause-merges
returns-in_default-clause-merges c =
    empty_slot _ _ _ _ _ NotOpen _ c.in_default.ensures.none c.taken.ensures.emptied (merges_into_none _) (reasons_of_none _)
    c.number.ensures

pub returns-in_default-taken-clause-merges : goal.returns-in_default-taken-clause-merges
returns-in_default-taken-clause-merges c =
    unmerged_slot c.in-Some.own.value _ _ _ _ _ c.in-Some.ensures.some c.filled.ensures c.in_default-taken.ensures.none
    c.number-in_default-taken.ensures
