use Rattle.std.proofs.Common.{arith}
use Rattle.chunk_contexts.proofs.SlabViews.{view-room}
use Rattle.chunk_contexts.proofs.slab.SlabChunkContext.growth_to.Goals as goal

pub returns-then-n-rounded-clause-moves : goal.returns-then-n-rounded-clause-moves
returns-then-n-rounded-clause-moves c more _ =
    absurd (omega (
      arith,
      more,
      view-room c.self.inside c.self.invariant c.args.self.now c.self.view_is c.args._name c.requires,
      c.rounded.ensures.value,
      c.if-n-rounded.true,
    ))
