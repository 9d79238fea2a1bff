use Rattle.std.proofs.Common.{length, ◌∙◌, ap, arith}
use Rattle.std.specs.Prelude.{nat_le}
use Rattle.std.proofs.lemmas.Bool.{le-leb}
use Rattle.group_table.proofs.RoomLaws.{all_growth}
use Rattle.group_table.proofs.table.GroupTable.room_for.Goals as goal

pub returns-in-Some-clause-by_keys : goal.returns-in-Some-clause-by_keys
returns-in-Some-clause-by_keys g c holds hash = ap (nat_le c.in-Some.need) c.from.ensures ∙ c.in-Some.ensures.fits holds c.args.limit hash

pub returns-in-Some-clause-emptied : goal.returns-in-Some-clause-emptied
returns-in-Some-clause-emptied g c emptied short narrow limit =
    let all = all_growth g.H.KeyHash.hash_of c.args.self.now c.args.tree.now c.requires.table emptied (length c.args.key.now) short narrow
    in
    le-leb c.in-Some.need c.from.result (omega (arith, all, c.in-Some.ensures.bytes, c.from.ensures, limit))

pub returns-in-None-clause-by_keys : goal.returns-in-None-clause-by_keys
returns-in-None-clause-by_keys g c holds = c.in-None.ensures.fits holds c.args.limit
