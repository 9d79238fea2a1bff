use Rattle.std.proofs.lemmas.Bool.Decides.{nat_tests}
use Rattle.std.proofs.Common.{arith}
use Rattle.chunk_layout.proofs.Fields.{small-any}
use Rattle.chunk_layout.proofs.layout.ChunkLayout.size.Goals as goal

pub returns-clause-small : goal.returns-clause-small
returns-clause-small c = grind (arith, nat_tests, small-any)
