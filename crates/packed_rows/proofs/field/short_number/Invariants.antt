use Rattle.packed_rows.proofs.FieldLaws.{DigitsSoFar}
use Rattle.packed_rows.proofs.field.short_number.Given as goal

abbrev pub invariant-loop-digit : goal.invariant-loop-digit
invariant-loop-digit l = DigitsSoFar l.digits l.digit-index l.value
