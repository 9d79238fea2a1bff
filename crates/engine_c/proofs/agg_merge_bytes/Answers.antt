use Rattle.engine_calls.specs.declared.last.Asked.TheVariants.{Merge}
use Rattle.engine_c.proofs.SlotLaws.{closed_slot}
use Rattle.engine_c.proofs.agg_merge_bytes.Goals as goal

pub returns-in_default-clause-merges : goal.returns-in_default-clause-merges
returns-in_default-clause-merges c = closed_slot _ Merge _ _ _ _ c.in_default.ensures.none c.taken.ensures.emptied c.number.ensures
