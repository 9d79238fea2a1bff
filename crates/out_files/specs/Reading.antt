-- Whether a reader gives some bytes, and which it gives first. All of this is our own.
use Rattle.std.specs.Prelude.{ℕ, ◌≡◌, ◌≢◌, ◌<◌, ◌⊎◌, List, length, take, Option, Result, Ok, Err, IfSome}
use Rattle.std.specs.Io.KnownBytes.{Consumes, IsAtEnd}

-- what a reader had left was these bytes, and it gave them all
abbrev pub GaveAll : Option (List ℕ) → Option (List ℕ) → List ℕ → Type 0
GaveAll old new bytes = Consumes old new bytes × IsAtEnd new

-- what a reader had left, where that is known, was something else
abbrev pub HadOthers : Option (List ℕ) → List ℕ → Type 0
HadOthers old bytes = IfSome old (λ all. all ≢ bytes)

-- the first bytes that a reader had left were read: as many as there was room for, or all that it had. Before an error there were fewer
abbrev pub ReadsFront : {E : Type 0} → Option (List ℕ) → Option (List ℕ) → Result ℕ E → (room : List ℕ) → Type 0
ReadsFront old new (Ok count) room = Consumes old new (take count room) × ((count ≡ length room) ⊎ IsAtEnd new)
ReadsFront old new (Err error) room = (bytes : List ℕ) × Consumes old new bytes × (length bytes < length room)
