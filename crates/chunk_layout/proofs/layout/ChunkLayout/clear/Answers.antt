use Rattle.std.proofs.lemmas.Bool.Decides.{nat_tests}
use Rattle.std.proofs.Common.{None, arith, ext_get_or}
use Rattle.chunk_layout.specs.Contents.{only}
use Rattle.chunk_layout.proofs.ContentsLaws.{length-only}
use Rattle.chunk_layout.proofs.layout.ChunkLayout.clear.Goals as goal

pub returns : goal.returns
returns c = grind (
  arith,
  nat_tests,
  ext_get_or None c.loop-block.self.blocks (only c.args.self.now.blocks c.args.keep),
  length-only
      c.args.self.now.blocks c.args.keep,
)
