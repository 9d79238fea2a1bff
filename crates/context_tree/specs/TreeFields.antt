-- What is true of the fields of a `Tree`.
use Rattle.std.specs.Prelude.{◌≡◌, ◌≤◌, length}
use Rattle.context_tree.specs.Preorders.{IsOrdered}
use Rattle.context_tree.specs.Tree.{TreeState, Stamped, Emptied, IsBounded, held_by_all}
use Rattle.context_tree.specs.declared.tree.Tree.TheInside.{Inside}

abbrev pub tree_of : Inside → TreeState
tree_of t = record { links = t.links; contexts = t.contexts.items; last = t.last }

pub record AreFields (t : Inside) : Type 0 where
  pub long : length t.contexts.items ≡ length t.links
  pub stamps : Stamped t.links t.last
  pub empty : Emptied t.links t.contexts.items
  pub bounded : IsBounded t.contexts.items
  pub held : t.held ≡ held_by_all t.contexts.items
  pub ordered : IsOrdered t.links t.ring.slots
  pub room : length t.links ≤ t.ring.room
