-- Files, and a disk in one; what a read gives of a file. `stands place` is that the file stands there, and `last place byte` that the byte
-- is the one last written at the place. All of this is our own.
use Rattle.std.specs.Prelude.{◌≡◌, ℕ, ◌+◌, ◌<◌, ◌≤◌, Bool, IsTrue, List, length, get_or}

-- a file of the system, and how often it failed
pub record SystemState (F : Type 0) : Type 0 where
  pub file : F
  pub failures : ℕ

-- a file in memory: its bytes, and where it stands
pub record MemState : Type 0 where
  pub bytes : List ℕ
  pub at : ℕ

-- whether a byte is the one at a place of it. Those past its end are 0
abbrev pub IsByteAt : MemState → ℕ → ℕ → Type 0
IsByteAt f place byte = get_or f.bytes place 0 ≡ byte

-- a disk in a file, and how often that was written
pub record FileState (F : Type 0) : Type 0 where
  pub file : F
  pub count : ℕ

-- the first n of these bytes have, at every place that was ever written, the byte last written there
abbrev pub FirstAreReadAt : (ℕ → ℕ → Type 0) → ℕ → ℕ → List ℕ → Type 0
FirstAreReadAt last at n bytes = (k byte : ℕ) → k < n → last (at + k) byte → get_or bytes k 0 ≡ byte

-- nothing but 0 was written from a place on
abbrev pub IsEnd : (ℕ → ℕ → Type 0) → ℕ → Type 0
IsEnd last at = (place byte : ℕ) → at ≤ place → last place byte → byte ≡ 0

-- n bytes were read from where the file stood on, and none only at its end, as an honest file says
pub record IsReadFrom (honest : Bool) (last : ℕ → ℕ → Type 0) (stood stands : ℕ → Type 0) (bytes : List ℕ) (n : ℕ) : Type 0 where
  pub moved : (at : ℕ) → stood at → stands (at + n)
  pub read : IsTrue honest → (at : ℕ) → stood at → FirstAreReadAt last at n bytes
  pub ended : IsTrue honest → (at : ℕ) → stood at → n ≡ 0 → 0 < length bytes → IsEnd last at
