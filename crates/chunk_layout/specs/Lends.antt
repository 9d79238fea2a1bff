-- What a chunk that is lent to be changed leaves in a layout.
use Rattle.std.specs.Prelude.{ℕ, List}
use Rattle.std.specs.Borrow.{Fml, MutBor, Array, Lends, u8}
use Rattle.chunk_layout.specs.Contents.{Layout, rewritten}
use Rattle.chunk_layout.specs.declared.place.Place.{Place}
use Rattle.chunk_layout.specs.contracts.layout.ChunkLayout.{the_row}

-- the layout with other bytes in the chunk at a place
abbrev pub layout_with : Layout → Place → List ℕ → Layout
layout_with l place bytes = record { head = l.head; blocks = l.blocks; contents = rewritten l.contents place bytes }

abbrev pub lends_contents : MutBor Layout → Place → MutBor (List ℕ) → Fml
lends_contents l place r = Lends the_row (Array u8 0) l r (layout_with l.now place)
