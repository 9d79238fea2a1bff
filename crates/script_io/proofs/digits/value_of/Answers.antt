use Rattle.std.proofs.Common.{arith}
use Rattle.script_io.proofs.DigitFacts.{nineteen_digits}
use Rattle.script_io.proofs.digits.value_of.Goals as goal

pub overflow_mul-value : goal.overflow_mul-value
overflow_mul-value c =
    let few = c.requires.few in
    omega (arith, nineteen_digits c.loop-digit.value c.loop-digit.digit-index c.loop-digit.invariant.0 (omega arith))

pub overflow_add-value : goal.overflow_add-value
overflow_add-value c =
    let few = c.requires.few in
    grind (arith, nineteen_digits c.loop-digit.value c.loop-digit.digit-index c.loop-digit.invariant.0 (omega arith))
