use Rattle.std.proofs.Common.{arith}
use Rattle.std.proofs.lemmas.Bool.Decides.{nat_tests}
use Rattle.chunk_layout.proofs.Numbers.{with_block-set}
use Rattle.chunk_layout.proofs.Vacancy.{marked-low, vacant-used}
use Rattle.chunk_layout.proofs.blocks.put_block.Goals as goal

pub returns-in-Some-clause-added : goal.returns-in-Some-clause-added
returns-in-Some-clause-added c = grind (arith, nat_tests, with_block-set, marked-low)

pub returns-in-Some-clause-vacant : goal.returns-in-Some-clause-vacant
returns-in-Some-clause-vacant c = grind (arith, nat_tests, marked-low, with_block-set, vacant-used)
