use Rattle.std.proofs.Common.{arith}
use Rattle.std.proofs.lemmas.Bool.Decides.{nat_tests}
use Rattle.chunk_layout.proofs.Vacancy.{vacant-dropped}
use Rattle.chunk_layout.proofs.blocks.drop_block.Goals as goal

pub returns-in-Some-clause-vacant : goal.returns-in-Some-clause-vacant
returns-in-Some-clause-vacant c = grind (arith, nat_tests, vacant-dropped)
