-- What is true of the fields of `Links`.
use Rattle.std.specs.Prelude.{◌<◌, ◌^◌, List, Option, length}
use Rattle.context_tree.specs.Links.{IsForest, AreFree}
use Rattle.context_tree.specs.declared.links.Link.{Link}
use Rattle.context_tree.specs.declared.links.Links.TheInside.{Inside}

abbrev pub links_of : Inside → List (Option Link)
links_of l = l.links.items

pub record AreFields (l : Inside) : Type 0 where
  pub forest : IsForest l.links.items
  pub free : AreFree l.links.items l.free
  pub few : length l.links.items < 2 ^ 32
