-- What an insertion leaves, done or refused because memory ran out. (Our own.)
use Rattle.std.specs.Prelude.{◌≡◌, ℕ, ◌+◌, ◌≤◌, List, [], ◌∷◌, ◌++◌, Result, IfOk, OnOk, OnErr, length}
use Rattle.context_tree.specs.Tree.{TreeState, held_below}
use Rattle.group_table.specs.Table.{TableState, groups, group_growth, held_in, IsSameBut}
use Rattle.group_table.specs.Space.{HoldsKeys}
use Rattle.group_table.specs.Standing.{IsTableIn, KeepsOthers}
use Rattle.group_table.specs.declared.table.Slot.{Slot}

-- the group comes after the others, or all groups stay; the tree beside the table stays; and no more is held than was counted
pub record Inserts {H E : Type 0} (hash_of : H → List ℕ → ℕ) (before after : TableState H) (old new : TreeState) (key state : List ℕ)
    (result : Result Slot E) : Type 0 where
  pub table : IsTableIn hash_of after new
  pub same : IsSameBut before after
  pub slot : IfOk result (λ slot. after.slots ≡ before.slots ++ slot ∷ [])
  pub refused : OnErr result ((after.slots ≡ before.slots) × (groups after new ≡ groups before old))
  pub groups : OnOk result (groups after new ≡ groups before old ++ (key, state) ∷ [])
  pub others : KeepsOthers before old new
  pub held : held_below new before.parent ≤ held_below old before.parent + group_growth before old (length key)
  pub rest : held_below new before.parent + held_in before old ≡ held_below old before.parent + held_in before new
  pub holds : OnOk result (HoldsKeys before old → HoldsKeys after new)
