use Rattle.std.proofs.Common.{subst}
use Rattle.chunk_layout.specs.Contents.{Layout, AreLaid}
use Rattle.chunk_layout.proofs.Fields.{laid-is}
use Rattle.chunk_layout.proofs.layout.ChunkLayout.are_laid.Goals as goal

pub returns : goal.returns
returns c = subst (λ (l : Layout). AreLaid l.blocks l.contents) c.self.view_is (laid-is c.self.inside c.self.invariant)
