use Rattle.chunk_contexts.proofs.Laws.{common_steps, nat_tests}
use Rattle.std.proofs.Common.{arith}
use Rattle.chunk_contexts.proofs.runs.Runs.claim.Goals as goal

pub returns-then-head-room-gt-BLOCK-clause-block : goal.returns-then-head-room-gt-BLOCK-clause-block
returns-then-head-room-gt-BLOCK-clause-block c = grind (arith, nat_tests, common_steps)

pub returns-then-head-room-clause-block : goal.returns-then-head-room-clause-block
returns-then-head-room-clause-block c = grind (arith, nat_tests, common_steps)

pub returns-clause-block : goal.returns-clause-block
returns-clause-block c = grind (arith, nat_tests, common_steps)
