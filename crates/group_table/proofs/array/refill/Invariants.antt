use Rattle.group_table.proofs.Words.{context_at, HasAll, IsRewritten, OnlyIn, bytes_at, count_of}
use Rattle.group_table.proofs.array.refill.Given as goal

abbrev pub invariant-loop-place : goal.invariant-loop-place
invariant-loop-place l = OnlyIn l.id l.fn.tree l.tree × IsRewritten (context_at l.fn.tree l.id) (context_at l.tree l.id) l.to
    × HasAll (bytes_at l.tree l.id l.to) (count_of l.to) (bytes_at l.fn.tree l.id l.from) l.place
