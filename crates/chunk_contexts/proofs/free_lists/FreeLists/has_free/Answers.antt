use Rattle.chunk_contexts.proofs.Laws.{common_steps, nat_tests}
use Rattle.std.proofs.Common.{arith}
use Rattle.chunk_contexts.proofs.Words.{room_of}
use Rattle.chunk_contexts.proofs.FreeLaws.{in-free_rooms}
use Rattle.chunk_contexts.proofs.free_lists.FreeLists.has_free.Goals as goal

pub returns : goal.returns
returns c = grind (arith, nat_tests, common_steps, in-free_rooms (room_of c.args.class))
