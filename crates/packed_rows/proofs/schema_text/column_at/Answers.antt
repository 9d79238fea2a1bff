use Rattle.packed_rows.proofs.DescribedColumns.{no_name, no_second_name, no_kind}
use Rattle.packed_rows.proofs.schema_text.column_at.Goals as goal

pub returns-in_err-name-clause-none : goal.returns-in_err-name-clause-none
returns-in_err-name-clause-none c = rw c.from_residual.ensures (no_name _ c.in_err-name.ensures.none)

pub returns-in_err-word-clause-none : goal.returns-in_err-word-clause-none
returns-in_err-word-clause-none c =
    rw c.from_residual-in_err-word.ensures (no_second_name _ c.in_ok-name.name.now _ c.in_ok-name.ensures.found c.in_err-word.ensures.none)

pub returns-in_err-kind-clause-none : goal.returns-in_err-kind-clause-none
returns-in_err-kind-clause-none c =
    rw c.from_residual-in_err-kind.ensures (no_kind _ c.in_ok-name.name.now c.in_ok-word.word.now _ _ c.in_ok-name.ensures.found
    c.in_ok-word.ensures.found c.in_err-kind.ensures)
