-- What summary files of one query begin with. Only types that no other crate sees cite this. All of this is our own.
use Rattle.std.specs.Prelude.{ℕ, List, [], Option, Some, None}
use Rattle.std.specs.declared.alloc.Global.{Global}
use Rattle.std.specs.declared.vec.Vec.{Vec}
use Rattle.std.specs.declared.rc.Rc.{Rc}

-- the bytes of a head, if there is one
abbrev pub head_bytes : Option (Rc (Vec ℕ Global) Global) → List ℕ
head_bytes None = []
head_bytes (Some head) = head.value.items
