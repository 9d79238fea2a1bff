use Rattle.chunk_contexts.proofs.Laws.{common_steps, nat_tests}
use Rattle.std.proofs.Common.{ap, ◌∙◌, arith}
use Rattle.chunk_contexts.proofs.Words.{contents_at, has, resized}
use Rattle.chunk_contexts.specs.Run.{RunState}
use Rattle.chunk_contexts.proofs.GenMoves.{counted-put}
use Rattle.chunk_contexts.proofs.generation.Generation.fill.Goals as goal

pub invariant_of-self : goal.invariant_of-self
invariant_of-self c =
    let r = c.self.inside.runs in let to = c.args.to in
    counted-put r c.self.inside.counts.items c.self.invariant to (ap (λ (s : RunState). has s.chunks to) c.self.view_is ∙ c.requires.to) 0
    (resized (contents_at r.layout.contents c.args.from).bytes c.args.n) c.copy_resized.new.self c.copy_resized.ensures

pub returns : goal.returns
returns c = grind (arith, nat_tests, common_steps)
