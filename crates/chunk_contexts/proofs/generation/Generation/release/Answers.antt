use Rattle.chunk_contexts.proofs.Laws.{common_steps, nat_tests}
use Rattle.std.proofs.Common.{◌<◌, length, sym, ap, ◌∙◌, subst, arith}
use Rattle.chunk_contexts.proofs.Words.{Layout, has}
use Rattle.chunk_contexts.specs.Run.{RunState}
use Rattle.chunk_contexts.specs.Generation.{IsCounted, gen_freed}
use Rattle.chunk_contexts.proofs.GenMoves.{gone-some, gone-low, gone-block, counted-gone, state-gone, counted-back, state-back}
use Rattle.chunk_contexts.proofs.generation.Generation.release.Goals as goal

pub uncount_one-requires-clause-there : goal.uncount_one-requires-clause-there
uncount_one-requires-clause-there c = gone-low c.self.inside.runs c.self.inside.counts.items c.self.invariant c.args.place
    (ap (λ (s : RunState). has s.chunks c.args.place) c.self.view_is ∙ c.requires)

pub uncount_one-requires-clause-some : goal.uncount_one-requires-clause-some
uncount_one-requires-clause-some c = gone-some c.self.inside.runs c.self.inside.counts.items c.self.invariant c.args.place
    (ap (λ (s : RunState). has s.chunks c.args.place) c.self.view_is ∙ c.requires)

pub give_back-requires : goal.give_back-requires
give_back-requires c = subst (λ (l : Layout). c.args.place.block < length l.blocks) (sym c.forget.ensures)
    (gone-block c.self.inside.runs c.self.inside.counts.items c.self.invariant c.args.place
    (ap (λ (s : RunState). has s.chunks c.args.place) c.self.view_is ∙ c.requires))

pub invariant_of-self : goal.invariant_of-self
invariant_of-self c = subst (IsCounted (record { layout = c.forget.new.self; active = c.self.inside.runs.active }))
    (sym c.uncount_one.ensures.counts) (counted-gone c.self.inside.runs c.self.inside.counts.items c.self.invariant c.args.place
    (ap (λ (s : RunState). has s.chunks c.args.place) c.self.view_is ∙ c.requires) c.forget.new.self c.forget.ensures)

pub returns-then-uncount_one-gt0 : goal.returns-then-uncount_one-gt0
returns-then-uncount_one-gt0 c =
    state-gone c.self.inside.runs c.self.inside.counts.items c.self.invariant c.args.place
    (ap (λ (s : RunState). has s.chunks c.args.place) c.self.view_is ∙ c.requires) c.forget.new.self c.forget.ensures
    (omega (arith, c.if-uncount_one-gt0.true, c.uncount_one.ensures.left))
    ∙ ap (λ (s : RunState). gen_freed s c.args.place) c.self.view_is

pub invariant_of-self-2 : goal.invariant_of-self-2
invariant_of-self-2 c =
    subst (IsCounted _) (sym c.uncount_one.ensures.counts)
    (counted-back c.self.inside.runs c.self.inside.counts.items c.self.invariant c.args.place
    (ap (λ (s : RunState). has s.chunks c.args.place) c.self.view_is ∙ c.requires) c.forget.new.self c.forget.ensures
    (omega (arith, c.if-uncount_one-gt0.false, c.uncount_one.ensures.left)) c.give_back.new.self c.give_back.ensures
    c.without-self-inside.result c.without-self-inside.ensures)

pub returns : goal.returns
returns c = grind (arith, nat_tests, common_steps, state-back c.self.inside.runs c.self.inside.counts.items c.self.invariant c.args.place)
