use Rattle.chunk_contexts.proofs.Laws.{common_steps, nat_tests}
use Rattle.std.proofs.Common.{◌≡◌, None, get_or, subst, arith}
use Rattle.std.proofs.lemmas.Result.{IfOk-weaker}
use Rattle.chunk_contexts.specs.Set.{SetState}
use Rattle.chunk_contexts.proofs.alloc_set.AllocSet.claim.Goals as goal

pub returns-clause-refused : goal.returns-clause-refused
returns-clause-refused c = grind (arith, nat_tests, common_steps)

pub returns-then-n-gt-LARGEST-clause-lies : goal.returns-then-n-gt-LARGEST-clause-lies
returns-then-n-gt-LARGEST-clause-lies c = IfOk-weaker c.dedicate.result _ _ (λ place vacant _. vacant) c.dedicate.ensures.vacant

pub returns-in-Some-clause-lies : goal.returns-in-Some-clause-lies
returns-in-Some-clause-lies c grows = grind (arith, nat_tests, common_steps)

pub returns-then-room-left-clause-lies : goal.returns-then-room-left-clause-lies
returns-then-room-left-clause-lies c grows = grind (arith, nat_tests, common_steps)

pub returns-clause-lies : goal.returns-clause-lies
returns-clause-lies c =
    IfOk-weaker c.carve_new.result _ _ (λ place vacant _. subst (λ (t : SetState). get_or t.blocks place.block None
    ≡ None) c.in_default.ensures.none.1 vacant) c.carve_new.ensures.vacant
