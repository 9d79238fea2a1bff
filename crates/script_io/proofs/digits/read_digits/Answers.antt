use Rattle.std.specs.Prelude.{◌≡◌, ◌≤◌, length, true}
use Rattle.std.proofs.Common.{arith, sym, ◌∙◌}
use Rattle.script_io.specs.Digits.{are_digits}
use Rattle.script_io.proofs.DigitFacts.{digits_within}
use Rattle.script_io.proofs.digits.read_digits.Goals as goal

pub returns-then-are_digits-clause-low : goal.returns-then-are_digits-clause-low
returns-then-are_digits-clause-low c =
    let is : are_digits c.args.most c.args.field.now ≡ true = sym c.are_digits.ensures ∙ c.if-are_digits.true in
    let few : length c.args.field.now ≤ c.args.most = grind (arith, is) in
    digits_within c.value_of.result (length c.args.field.now) c.args.most c.value_of.ensures.low few
