use Rattle.std.specs.Prelude.{◌≡◌, take}
use Rattle.query_checks.specs.Sameness.{first_of_each}
use Rattle.query_checks.proofs.distinct.distinct.Given as goal

abbrev pub invariant-loop-member : goal.invariant-loop-member
invariant-loop-member g l = l.found.items ≡ first_of_each g.T.Same.same (take l.member-index l.members)
