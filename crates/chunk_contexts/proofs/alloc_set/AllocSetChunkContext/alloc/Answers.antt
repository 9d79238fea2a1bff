use Rattle.std.proofs.Common.{length, refl, arith}
use Rattle.chunk_contexts.proofs.Words.{Adds}
use Rattle.chunk_contexts.proofs.Laws.{common_steps, nat_tests}
use Rattle.chunk_contexts.specs.Set.{set_room}
use Rattle.chunk_contexts.proofs.SetMoves.{put-taken}
use Rattle.chunk_contexts.proofs.Content.{added-takes}
use Rattle.chunk_contexts.proofs.alloc_set.AllocSetChunkContext.alloc.Goals as goal

pub write-requires-clause-room : goal.write-requires-clause-room
write-requires-clause-room c = grind (arith, nat_tests, common_steps)

pub returns-clause-space : goal.returns-clause-space
returns-clause-space c = grind (arith, nat_tests, put-taken)

pub returns-clause-taken : goal.returns-clause-taken
returns-clause-taken c =
    let added : Adds c.args.self.now.chunks c.write.new.self.chunks c.write.result (set_room (length c.args.bytes.now))
    c.args.bytes.now = grind (arith, nat_tests, common_steps, put-taken) in
    added-takes _ _ _ _ _ added (length c.args.bytes.now) refl

pub returns-clause-lies : goal.returns-clause-lies
returns-clause-lies c = grind (arith, nat_tests, common_steps)
