use Rattle.std.proofs.Common.{◌<◌, ◌≤◌, ℕ}
use Rattle.group_table.proofs.Words.{context_at, IsOther}
use Rattle.group_table.proofs.search.look.Given as goal

abbrev pub invariant-loop-place : goal.invariant-loop-place
invariant-loop-place l = (other : ℕ) → l.from ≤ other → other < l.place → IsOther (context_at l.fn.tree l.fn.keys) l.array l.hash l.key
    other
