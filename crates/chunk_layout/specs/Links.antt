-- How a free chunk names the next one of its list. All of this is our own.
use Rattle.std.specs.Prelude.{ℕ, ◌<◌, ◌^◌, List, ◌++◌, Option, Some, None}
use Rattle.std.specs.Int.{w32, to_be_bytes}
use Rattle.chunk_layout.specs.declared.place.Place.{Place}

-- the bytes of a place, and those by which a free chunk names the next: no chunk begins at offset 0
abbrev pub place_bytes : Place → List ℕ
place_bytes p = to_be_bytes w32 p.block ++ to_be_bytes w32 p.offset

abbrev pub no_place : Place
no_place = record { block = 0; offset = 0 }

abbrev pub link_bytes : Option Place → List ℕ
link_bytes None = place_bytes no_place
link_bytes (Some p) = place_bytes p

-- a place that a link can name
pub record IsLinkable (p : Place) : Type 0 where
  pub block : p.block < 2 ^ 32
  pub some : 0 < p.offset
  pub offset : p.offset < 2 ^ 32

abbrev pub IsLink : Option Place → Type 0
IsLink None = Unit {0}
IsLink (Some p) = IsLinkable p
