use Rattle.std.proofs.Common.{sym}
use Rattle.origin_prefix.proofs.AsideLaws.{written_at}
use Rattle.origin_prefix.proofs.early.put_rows.Goals as goal

pub returns-in-Some-clause-rows : goal.returns-in-Some-clause-rows
returns-in-Some-clause-rows c = written_at c.args.places.now (c.get_mut.follows.lender c.args.rows) c.args.number c.in-Some.place.now
    c.args.rows (sym c.in-Some.ensures.value) (c.get_mut.follows.holds c.args.rows)
