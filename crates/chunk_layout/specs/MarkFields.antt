-- What is true of the fields of marks: the marked numbers stand before the others.
use Rattle.std.specs.Prelude.{◌≤◌, Bool, List, nat_lt, map, length}
use Rattle.chunk_layout.specs.Marks.{IsArranged}
use Rattle.chunk_layout.specs.declared.marks.BlockMarks.TheInside.{Inside}

-- for each number whether it is marked
abbrev pub marks_of : Inside → List Bool
marks_of m = map (λ place. nat_lt place m.count) m.places.items

pub record AreFields (m : Inside) : Type 0 where
  pub arranged : IsArranged m.order.items m.places.items
  pub count : m.count ≤ length m.order.items
