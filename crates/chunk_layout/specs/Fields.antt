-- What is true of the fields of a layout.
use Rattle.std.specs.Prelude.{◌≡◌, ◌^◌, ◌<◌, ◌≤◌, map, length, unwrap_or}
use Rattle.chunk_layout.specs.Every.{Every}
use Rattle.chunk_layout.specs.Contents.{Layout, total}
use Rattle.chunk_layout.specs.ChunkHeaders.{IsLayout, sizes_of, headers_of, contents_of}
use Rattle.chunk_layout.specs.Vacant.{AreVacant}
use Rattle.chunk_layout.specs.declared.layout.ChunkLayout.TheInside.{Inside}

abbrev pub layout_of : Inside → Layout
layout_of l = record {
  head = l.head;
  blocks = sizes_of l.blocks.items;
  contents = map (contents_of l.blocks.items)
      (headers_of l.notes.notes);
}

pub record AreFields (l : Inside) : Type 0 where
  pub laid : IsLayout l.head l.blocks.items (headers_of l.notes.notes)
  pub held : l.held ≡ total (sizes_of l.blocks.items)
  pub small : Every (λ size. unwrap_or size 0 ≤ 2 ^ 31) (sizes_of l.blocks.items)
  pub few : length (sizes_of l.blocks.items) < 2 ^ 32
  pub vacant : AreVacant (sizes_of l.blocks.items) l.vacant
