use Rattle.std.specs.Prelude.{[]}
use Rattle.std.specs.List.Sorted.{IsStrictlySortedBy}
use Rattle.hash_agg.proofs.laws.empty_run.Goals as goal

pub returns-clause-run : goal.returns-clause-run
unfolding IsStrictlySortedBy
returns-clause-run c = λ query most. record { groups = []; are = tt; rises = tt }
