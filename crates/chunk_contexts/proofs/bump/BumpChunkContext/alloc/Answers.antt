use Rattle.std.proofs.Common.{length, refl, subst}
use Rattle.chunk_contexts.proofs.Words.{TakesChunk, rounded}
use Rattle.chunk_contexts.proofs.Content.{added-takes}
use Rattle.chunk_contexts.specs.Run.{RunState, run_of}
use Rattle.chunk_contexts.proofs.bump.BumpChunkContext.alloc.Goals as goal

pub returns-clause-taken : goal.returns-clause-taken
returns-clause-taken c =
    let n = length c.args.bytes.now in let bytes = c.args.bytes.now in let name = c.in_ok-name.name in let after = c.alloc.new.self in
    subst (λ (s : RunState). TakesChunk s.chunks (run_of after).chunks name (rounded n) n bytes) c.self.view_is
    (added-takes _ _ _ _ _ c.in_ok-name.ensures.added n refl)
