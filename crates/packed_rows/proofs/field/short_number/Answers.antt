use Rattle.std.proofs.Common.{arith}
use Rattle.packed_rows.proofs.FieldLaws.{digit_more, low_number, short_digits}
use Rattle.packed_rows.proofs.field.short_number.Goals as goal

pub overflow_mul-value : goal.overflow_mul-value
overflow_mul-value c =
    let few = c.if-digits-gt-SURE_DIGITS.false in
    let within = c.loop-digit-test.true in
    omega (arith, short_digits c.loop-digit.value c.loop-digit.digit-index c.loop-digit.invariant.0 (omega (arith, few, within)))

pub overflow_add-value : goal.overflow_add-value
overflow_add-value c =
    let few = c.if-digits-gt-SURE_DIGITS.false in
    let within = c.loop-digit-test.true in
    grind (arith, short_digits c.loop-digit.value c.loop-digit.digit-index c.loop-digit.invariant.0 (omega (arith, few, within)))

pub loop-digit-preserved : goal.loop-digit-preserved
loop-digit-preserved c =
    digit_more c.args.digits.now c.loop-digit.digit-index _ c.loop-digit.value c.from.result c.loop-digit-test.true c.loop-digit.invariant
    c.if-not-is_ascii_digit.ensures.bound c.from.ensures

pub returns-clause-low : goal.returns-clause-low
returns-clause-low c =
    let few = c.if-digits-gt-SURE_DIGITS.false in
    let within = c.loop-digit.auto.digit-index-end in
    low_number c.loop-digit.value c.loop-digit.digit-index c.loop-digit.invariant.0 (omega (arith, few, within))
