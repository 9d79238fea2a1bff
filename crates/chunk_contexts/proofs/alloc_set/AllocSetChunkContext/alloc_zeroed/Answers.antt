use Rattle.std.proofs.Common.{arith}
use Rattle.chunk_contexts.proofs.Words.{zeros, Adds}
use Rattle.chunk_contexts.proofs.Laws.{length-zeros, common_steps, nat_tests}
use Rattle.chunk_contexts.specs.Set.{set_room}
use Rattle.chunk_contexts.proofs.SetMoves.{put-taken}
use Rattle.chunk_contexts.proofs.Content.{added-takes}
use Rattle.chunk_contexts.proofs.alloc_set.AllocSetChunkContext.alloc_zeroed.Goals as goal

pub write_zeros-requires-clause-room : goal.write_zeros-requires-clause-room
write_zeros-requires-clause-room c = grind (arith, nat_tests, common_steps)

pub returns-clause-space : goal.returns-clause-space
returns-clause-space c = grind (arith, nat_tests, put-taken)

pub returns-clause-taken : goal.returns-clause-taken
returns-clause-taken c =
    let added : Adds c.args.self.now.chunks c.write_zeros.new.self.chunks c.write_zeros.result (set_room c.args.n) (zeros c.args.n) =
    grind (arith, nat_tests, common_steps, put-taken, length-zeros) in
    added-takes _ _ _ _ _ added c.args.n (length-zeros c.args.n)

pub returns-clause-lies : goal.returns-clause-lies
returns-clause-lies c = grind (arith, nat_tests, common_steps)
