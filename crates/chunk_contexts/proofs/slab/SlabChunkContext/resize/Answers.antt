use Rattle.chunk_contexts.proofs.Laws.{common_steps, nat_tests}
use Rattle.std.proofs.Common.{ap, arith}
use Rattle.chunk_contexts.proofs.Words.{total, over_most}
use Rattle.chunk_contexts.specs.Slab.{SlabState}
use Rattle.chunk_contexts.proofs.SlabViews.{admitted-size, view-room, view-resized}
use Rattle.chunk_contexts.proofs.slab.SlabChunkContext.resize.Goals as goal

pub returns-clause-resized : goal.returns-clause-resized
returns-clause-resized c =
    let x = c.self.inside in
    view-resized x c.self.invariant c.args.self.now c.self.view_is c.args.name c.requires c.args.n
    (admitted-size (over_most c.args.n) c.args.n x.inner.size c.in_ok-check_size.ensures)

pub returns-clause-moved : goal.returns-clause-moved
returns-clause-moved c = grind (arith, nat_tests, common_steps, view-room)

pub returns-clause-lies : goal.returns-clause-lies
returns-clause-lies c = grind (arith, nat_tests, common_steps, view-room)

pub returns-clause-grown : goal.returns-clause-grown
returns-clause-grown c = grind (arith, nat_tests, common_steps, view-room)

pub returns-clause-most : goal.returns-clause-most
returns-clause-most c = let same = ap (λ (s : SlabState). total s.blocks) c.self.view_is in omega (arith, same)
