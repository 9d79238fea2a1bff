use Rattle.group_table.proofs.SpaceLaws.{holds_stay}
use Rattle.group_table.proofs.StayLaws.{table_stays, groups_stay}
use Rattle.group_table.proofs.table.GroupTable.stays.Goals as goal

pub returns-clause-table : goal.returns-clause-table
returns-clause-table g c after whole same = table_stays g.H.KeyHash.hash_of c.args.self.now c.args.tree.now after same whole c.requires

pub returns-clause-groups : goal.returns-clause-groups
returns-clause-groups g c after same = groups_stay c.args.self.now c.args.tree.now after same

pub returns-clause-holds : goal.returns-clause-holds
returns-clause-holds g c after whole same held holds = holds_stay c.args.self.now c.args.tree.now after same held holds
