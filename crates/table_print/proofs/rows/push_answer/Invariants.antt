use Rattle.std.proofs.Common.{take}
use Rattle.table_print.proofs.rows.push_answer.Given as goal

abbrev pub invariant-loop-row : goal.invariant-loop-row
invariant-loop-row g l = g.S.RowSink.took l.fn.table l.table (take l.row l.answer)
