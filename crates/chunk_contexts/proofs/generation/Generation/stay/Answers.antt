use Rattle.chunk_contexts.proofs.Laws.{common_steps, nat_tests}
use Rattle.std.proofs.Common.{ap, ◌∙◌, arith}
use Rattle.chunk_contexts.proofs.Words.{contents_at, has, resized}
use Rattle.chunk_contexts.specs.Run.{RunState}
use Rattle.chunk_contexts.proofs.GenMoves.{counted-put}
use Rattle.chunk_contexts.proofs.generation.Generation.stay.Goals as goal

pub invariant_of-self : goal.invariant_of-self
invariant_of-self c =
    let r = c.self.inside.runs in let place = c.args.place in
    counted-put r c.self.inside.counts.items c.self.invariant place (ap (λ (s : RunState). has s.chunks place) c.self.view_is
    ∙ c.requires.there) 0 (resized (contents_at r.layout.contents place).bytes c.args.n) c.resize.new.self c.resize.ensures

pub returns-clause-put : goal.returns-clause-put
returns-clause-put c = grind (arith, nat_tests, common_steps)
