-- What a call does to the bytes of a disk, and how it ends. `last place byte` is that the byte is the one last written at the place.
-- All of this is our own.
use Rattle.std.specs.Prelude.{◌≡◌, ℕ, ◌+◌, ◌<◌, ◌≤◌, ◌⊎◌, List, length, get_or, Result, Ok, Err}

-- these bytes are the ones last written at the places from `at` on
abbrev pub AreLast : (ℕ → ℕ → Type 0) → ℕ → List ℕ → Type 0
AreLast last at bytes = (k : ℕ) → k < length bytes → last (at + k) (get_or bytes k 0)

-- these bytes have, at every place that was ever written, the byte last written there
abbrev pub AreReadAt : (ℕ → ℕ → Type 0) → ℕ → List ℕ → Type 0
AreReadAt last at bytes = (k byte : ℕ) → k < length bytes → last (at + k) byte → get_or bytes k 0 ≡ byte

-- the byte last written at a place still is: at every place, and at each place but n from `at` on
abbrev pub Keeps : (ℕ → ℕ → Type 0) → (ℕ → ℕ → Type 0) → Type 0
Keeps before after = (place byte : ℕ) → before place byte → after place byte

abbrev pub KeepsBeside : (ℕ → ℕ → Type 0) → (ℕ → ℕ → Type 0) → ℕ → ℕ → Type 0
KeepsBeside before after at n = (place byte : ℕ) → (place < at) ⊎ (at + n ≤ place) → before place byte → after place byte

-- how often the disk failed in a call that ended so, by how often it did for each error
abbrev pub failed : {T E : Type 0} → (E → ℕ) → Result T E → ℕ
failed faults (Ok value) = 0
failed faults (Err error) = faults error
