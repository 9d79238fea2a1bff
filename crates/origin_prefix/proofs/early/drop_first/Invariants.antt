use Rattle.std.specs.Prelude.{◌≡◌, drop}
use Rattle.origin_prefix.proofs.early.drop_first.Given as goal

abbrev pub invariant-loop : goal.invariant-loop
invariant-loop l = l.early.entries ≡ drop l.counter l.initial.early.entries
