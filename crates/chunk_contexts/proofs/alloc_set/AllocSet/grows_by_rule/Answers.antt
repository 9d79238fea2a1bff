use Rattle.chunk_contexts.proofs.Laws.{common_steps, nat_tests}
use Rattle.std.proofs.Common.{arith}
use Rattle.chunk_contexts.proofs.RuleLaws.{size-by_rule, size-most, cut-by_rule}
use Rattle.chunk_contexts.proofs.alloc_set.AllocSet.grows_by_rule.Goals as goal

pub returns : goal.returns
returns c = grind (arith, nat_tests, common_steps, size-by_rule, size-most, cut-by_rule)
