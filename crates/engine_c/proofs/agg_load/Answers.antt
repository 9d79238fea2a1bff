use Rattle.std.proofs.Common.{inr}
use Rattle.engine_c.proofs.agg_load.Goals as goal

pub returns-in_default-clause-opens : goal.returns-in_default-clause-opens
returns-in_default-clause-opens c =
    inr (record { was = c.in_default.ensures.none; stays = c.taken_or_new.ensures.emptied; ended = c.number.ensures })
