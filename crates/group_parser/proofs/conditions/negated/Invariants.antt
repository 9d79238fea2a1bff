use Rattle.std.proofs.Common.{◌≡◌}
use Rattle.group_parser.specs.Views.{condition_read}
use Rattle.group_parser.specs.Nots.{negated}
use Rattle.group_parser.proofs.conditions.negated.Given as goal

abbrev pub invariant-loop : goal.invariant-loop
invariant-loop l = condition_read l.negated ≡ negated l.counter (condition_read l.fn.operand)
