use Rattle.chunk_layout.proofs.Carves.{laid-fewer}
use Rattle.chunk_layout.proofs.Words.{total}
use Rattle.chunk_layout.proofs.Words.{sizes_of}
use Rattle.chunk_layout.proofs.Fields.{vacant}
use Rattle.chunk_layout.proofs.Laws.{without-header}
use Rattle.std.proofs.Common.{arith}
use Rattle.std.proofs.lemmas.Bool.Decides.{nat_tests}
use Rattle.chunk_layout.proofs.layout.ChunkLayout.forget.Goals as goal

pub invariant_of-self : goal.invariant_of-self
invariant_of-self c = grind (arith, nat_tests, laid-fewer, total, sizes_of, vacant)

pub returns : goal.returns
returns c = grind (arith, nat_tests, without-header)
