use Rattle.std.proofs.Common.{◌≡◌, drop}
use Rattle.script_io.proofs.records.Records.skip.Given as goal

abbrev pub invariant-loop : goal.invariant-loop
invariant-loop l = l.self ≡ drop l.counter l.fn.self
