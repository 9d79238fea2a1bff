use Rattle.packed_rows.proofs.FieldLaws.{no_number, at_error}
use Rattle.packed_rows.proofs.field.long_bigint.Goals as goal

pub returns-in_err-ok-clause-none : goal.returns-in_err-ok-clause-none
returns-in_err-ok-clause-none c =
    rw c.from_residual.ensures
    (λ z. no_number c.args.field.now z (at_error _ _ c.from_utf8.result c.from_utf8.ensures.cases c.in_err-ok.ensures.value))
