use Rattle.chunk_contexts.proofs.RunMoves.{run-lent, run-bytes, run-wrote}
use Rattle.std.proofs.Common.{refl, ◌∙◌, rules}
use Rattle.chunk_contexts.proofs.Words.{place_of}
use Rattle.chunk_contexts.proofs.Content.{rewriting}
use Rattle.chunk_contexts.proofs.bump.BumpChunkContext.get_mut.Goals as goal

pub invariant_of-self-lent : goal.invariant_of-self-lent
invariant_of-self-lent c = λ w. run-lent 0 c.self.inside.runs c.self.invariant c.place.result w

pub returns : goal.returns
returns c =
    let r = c.self.inside.runs in let now = c.args.self.now in let place = place_of c.args.name in
    let bytes = c.get_mut.ensures.value ∙ run-bytes r now c.self.view_is place c.place.result c.place.ensures in
    ((refl, run-wrote r now c.self.view_is place c.place.result c.place.ensures), search (rules, rewriting))
