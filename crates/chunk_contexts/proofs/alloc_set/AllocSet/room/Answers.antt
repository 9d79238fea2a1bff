use Rattle.std.proofs.Common.{ap, ◌∙◌}
use Rattle.chunk_contexts.proofs.Words.{ChunkContents}
use Rattle.chunk_contexts.proofs.SetViews.{seen, seen-there}
use Rattle.chunk_contexts.proofs.alloc_set.AllocSet.room.Goals as goal

pub room-requires-clause-there : goal.room-requires-clause-there
room-requires-clause-there c = seen-there c.self.inside c.self.invariant c.args.self.now c.self.view_is c.args.place c.requires

pub returns : goal.returns
returns c = c.room.ensures
    ∙ ap (λ (p : ChunkContents). p.room) (seen c.self.inside c.self.invariant c.args.self.now c.self.view_is c.args.place c.requires)
