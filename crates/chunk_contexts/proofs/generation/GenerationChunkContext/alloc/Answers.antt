use Rattle.std.proofs.Common.{length, sym, ap, ◌∙◌, refl, subst, arith}
use Rattle.chunk_contexts.proofs.Words.{TakesChunk, rounded}
use Rattle.chunk_contexts.proofs.Laws.{always_err, common_steps, nat_tests}
use Rattle.chunk_contexts.proofs.Content.{added-takes}
use Rattle.chunk_contexts.specs.declared.runs.Runs.{Runs}
use Rattle.chunk_contexts.specs.Run.{RunState, run_of}
use Rattle.chunk_contexts.specs.Generation.{IsCounted}
use Rattle.chunk_contexts.proofs.GenAllocs.{made-there, made-counted, counted-longer, refused-count, refused-as}
use Rattle.chunk_contexts.proofs.generation.GenerationChunkContext.alloc.Goals as goal

pub count_one-requires-clause-there : goal.count_one-requires-clause-there
count_one-requires-clause-there c = grind (
  arith,
  nat_tests,
  common_steps,
  made-there c.self.inside.runs c.alloc.new.self
      c.self.inside.counts.items c.make_count.new.counts.items c.self.invariant c.in_ok-name.ensures.run (length c.args.bytes.now)
      (c.args.bytes.now) c.in_ok-name.name c.in_ok-name.ensures.admitted c.in_ok-name.ensures.space c.in_ok-name.ensures.added
      c.in_ok-name.ensures.block c.in_ok-make_count.ensures.same c.in_ok-make_count.ensures.long,
)

pub invariant_of-self-2 : goal.invariant_of-self-2
invariant_of-self-2 c = grind (
  arith,
  nat_tests,
  common_steps,
  made-counted c.self.inside.runs c.alloc.new.self c.self.inside.counts.items
      c.make_count.new.counts.items c.self.invariant c.in_ok-name.ensures.run (length c.args.bytes.now) (c.args.bytes.now) c.in_ok-name.name
      c.in_ok-name.ensures.admitted c.in_ok-name.ensures.space c.in_ok-name.ensures.added c.in_ok-name.ensures.block
      c.in_ok-make_count.ensures.same c.in_ok-make_count.ensures.long,
)

pub returns-in_err-make_count-clause-refused : goal.returns-in_err-make_count-clause-refused
returns-in_err-make_count-clause-refused c = refused-count _ _ _ (length c.args.bytes.now) c.from_residual.ensures.1 c.self.view_is
    (omega (arith, c.in_err-make_count.ensures.refused, c.growth-growth.ensures))

pub returns-in_err-make_count-clause-unchanged : goal.returns-in_err-make_count-clause-unchanged
returns-in_err-make_count-clause-unchanged c = always_err c.from_residual.result c.self.view_is

pub returns-in_err-name-clause-refused : goal.returns-in_err-name-clause-refused
returns-in_err-name-clause-refused c = refused-as _ _ _ (length c.args.bytes.now) _ c.from_residual-in_err-name.ensures.1 c.self.view_is
    c.in_err-name.ensures.refused

pub returns-in_err-name-clause-unchanged : goal.returns-in_err-name-clause-unchanged
returns-in_err-name-clause-unchanged c = always_err c.from_residual-in_err-name.result (ap run_of c.in_err-name.ensures.unchanged
    ∙ c.self.view_is)

pub returns : goal.returns
returns c =
    let n = length c.args.bytes.now in let bytes = c.args.bytes.now in let name = c.in_ok-name.name in let after = c.alloc.new.self in
    let taken = subst (λ (s : RunState). TakesChunk s.chunks (run_of after).chunks name (rounded n) n bytes) c.self.view_is
    (added-takes _ _ _ _ _ c.in_ok-name.ensures.added n refl) in
    grind (arith, nat_tests, common_steps, taken)

pub invariant_of-self : goal.invariant_of-self
invariant_of-self c = counted-longer _ _ _ c.self.invariant c.in_err-make_count.ensures.same c.in_err-make_count.ensures.long

pub invariant_of-self-in_err-name : goal.invariant_of-self-in_err-name
invariant_of-self-in_err-name c =
    subst (λ (r : Runs). IsCounted r c.make_count.new.counts.items) (sym c.in_err-name.ensures.unchanged)
    (counted-longer c.self.inside.runs _ _ c.self.invariant c.in_ok-make_count.ensures.same c.in_ok-make_count.ensures.long)
