use Rattle.std.specs.Prelude.{Some}
use Rattle.std.proofs.Common.{sym, ap}
use Rattle.replica_merge.specs.Lemmas.MergedLaws.{written_at}
use Rattle.replica_merge.proofs.merging.put_back.Goals as goal

pub returns-in-Some-clause-at : goal.returns-in-Some-clause-at
returns-in-Some-clause-at c = written_at c.args.parts.now (c.get_mut.follows.lender c.settle.new.self) c.args.origin c.in-Some.aside.now
    c.settle.new.self c.args.part (sym c.in-Some.ensures.value) (c.get_mut.follows.holds c.settle.new.self) (ap Some c.settle.ensures)
