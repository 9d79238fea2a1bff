use Rattle.engine_calls.specs.declared.last.Asked.TheVariants.{Feed}
use Rattle.engine_c.proofs.SlotLaws.{closed_slot}
use Rattle.engine_c.proofs.agg_feed_rows.Goals as goal

pub returns-in_default-clause-feeds : goal.returns-in_default-clause-feeds
returns-in_default-clause-feeds c = closed_slot _ Feed _ _ _ _ c.in_default.ensures.none c.taken.ensures.emptied c.number.ensures
