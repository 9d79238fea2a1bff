use Rattle.chunk_contexts.proofs.Laws.{common_steps, nat_tests}
use Rattle.std.proofs.Common.{◌∙◌, arith}
use Rattle.chunk_contexts.proofs.SetViews.{asked-there, asked-len, asked-bytes}
use Rattle.chunk_contexts.proofs.alloc_set.AllocSetChunkContext.get.Goals as goal

pub get-requires : goal.get-requires
get-requires c = grind (arith, nat_tests, common_steps, asked-there, asked-len)

pub returns-clause-bytes : goal.returns-clause-bytes
returns-clause-bytes c = c.get.ensures.value ∙ asked-bytes c.self.inside c.self.invariant c.args.self.now c.self.view_is c.args.name
    c.requires _ c.place.ensures
