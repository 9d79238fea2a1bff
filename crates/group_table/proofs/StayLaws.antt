-- A table is one in other trees too.
use Rattle.std.specs.Prelude.{◌≡◌, ℕ, List}
use Rattle.std.proofs.Common.{sym, subst}
use Rattle.group_table.proofs.Words.{TreeState, IsWhole, context_at, TableState, groups, group_in, IsSetWith, HasSpace, Stands, IsTableIn}
use Rattle.group_table.proofs.Words.{IsSameFor}
use Rattle.group_table.proofs.ChildLaws.{placed_alike}
use Rattle.group_table.proofs.GroupLaws.{map_same}

module _ {H : Type 0} (t : TableState H) (before after : TreeState) (same : IsSameFor t before after) where
  pub groups_stay : groups t after ≡ groups t before
  groups_stay = map_same (group_in t after) (group_in t before) t.slots (λ i slot there. rw (same.in_keys, same.in_states))

module _ {H : Type 0} (hash_of : H → List ℕ → ℕ) (t : TableState H) (before after : TreeState) (same : IsSameFor t before after) where
  stands_stay : Stands hash_of t (context_at before t.buckets) (context_at before t.keys) (context_at before t.states)
      → Stands hash_of t (context_at after t.buckets) (context_at after t.keys) (context_at after t.states)
  stands_stay was = rw (same.in_buckets, same.in_keys, same.in_states) was

  pub table_stays : IsWhole after → IsTableIn hash_of t before → IsTableIn hash_of t after
  table_stays whole is = record {
    standing = record {
      placed = placed_alike t before after whole same.parent same.buckets same.keys same.states is.standing.placed;
      stands = stands_stay is.standing.stands;
    };
    space = subst (IsSetWith (HasSpace t.array)) (sym same.in_buckets) is.space;
  }
