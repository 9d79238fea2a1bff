-- What writing a state and clearing a table leave. (Our own.)
use Rattle.std.specs.Prelude.{◌≡◌, ℕ, ◌+◌, ◌≤◌, List, [], Some, None, length, slice_get, slice_set}
use Rattle.context_tree.specs.Tree.{TreeState, held_below}
use Rattle.group_table.specs.Children.{IsCleared}
use Rattle.group_table.specs.Space.{HoldsKeys}
use Rattle.group_table.specs.Standing.{IsTableIn, KeepsOthers, KeepsBeside}
use Rattle.group_table.specs.Table.{TableState, groups, key_in, held_in, without_groups, IsEmptied, IsSameBut}
use Rattle.group_table.specs.declared.table.Slot.{Slot}

-- bytes were written over the state of a group: where they are as many, that is its state, all other groups stay, and no more is held;
-- and the tree beside the table stays
pub record WritesState {H : Type 0} (hash_of : H → List ℕ → ℕ) (t : TableState H) (slot : Slot) (state : List ℕ) (old new : TreeState) :
    Type 0 where
  pub stands : length state ≡ t.width → IsTableIn hash_of t new
  pub written : length state ≡ t.width → (place : ℕ) → slice_get t.slots place ≡ Some slot → groups t new
      ≡ slice_set (groups t old) place (key_in t old slot, state)
  pub others : KeepsOthers t old new
  pub holds : length state ≡ t.width → HoldsKeys t old → HoldsKeys t new

-- all groups were removed, and the table is otherwise the same; the tree beside it stays, and of what is held below its parent it freed
-- what its contexts no longer hold
pub record Clears {H : Type 0} (hash_of : H → List ℕ → ℕ) (before after : TableState H) (old new : TreeState) : Type 0 where
  pub table : IsTableIn hash_of after new
  pub same : IsSameBut before after
  pub slots : after.slots ≡ []
  pub array : after.array ≡ None
  pub held : IsCleared before new
  pub tree : new ≡ without_groups before old
  pub beside : KeepsBeside before old new
  pub rest : held_below new before.parent + held_in before old ≤ held_below old before.parent + held_in before new
  pub emptied : held_below old before.parent ≡ held_in before old → IsEmptied after new
  pub holds : held_below old before.parent ≡ held_in before old → HoldsKeys after new
