use Rattle.group_table.proofs.SpaceLaws.{some_held, none_held}
use Rattle.group_table.proofs.table.GroupTable.held_by_keys.Goals as goal

pub returns-clause-some : goal.returns-clause-some
returns-clause-some g c holds some = some_held g.H.KeyHash.hash_of c.args.self.now c.args.tree.now c.requires holds some

pub returns-clause-none : goal.returns-clause-none
returns-clause-none g c holds none = none_held g.H.KeyHash.hash_of c.args.self.now c.args.tree.now c.requires holds none
