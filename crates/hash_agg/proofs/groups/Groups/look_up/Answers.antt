use Rattle.std.proofs.Common.{subst}
use Rattle.hash_agg.proofs.Words.{low_hash, GroupsState, AreOnce, entries_of}
use Rattle.hash_agg.proofs.TableLaws.{once_groups}
use Rattle.hash_agg.proofs.groups.Groups.look_up.Goals as goal

pub returns-clause-once : goal.returns-clause-once
returns-clause-once g c = subst (λ (x : GroupsState g.row.H.Denot). AreOnce (entries_of x)) c.self.view_is
    (once_groups low_hash c.self.inside.table c.self.inside.tree c.self.invariant.in_tree)
