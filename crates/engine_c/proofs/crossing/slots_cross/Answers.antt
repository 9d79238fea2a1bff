use Rattle.engine_c.proofs.slot.Slot.TheSendSync.{the_send, the_field_send}
use Rattle.std.proofs.Crossing.{crosses}
use denote.Param.Send.{sendable}
use Rattle.engine_c.proofs.crossing.slots_cross.Goals as goal

pub crosses-requires : goal.crosses-requires
crosses-requires c = search (sendable, crosses, the_send, the_field_send) depth 20
