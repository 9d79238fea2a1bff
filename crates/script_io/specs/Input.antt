-- What reading a whole script does to the bytes that a reader has left.
use Rattle.std.specs.Prelude.{◌≡◌, ℕ, ◌<◌, ◌≤◌, ◌+◌, Bool, true, false, List, length, Option, Result, Ok, Err}
use Rattle.std.specs.Io.KnownBytes.{Consumes}
use Rattle.script_io.specs.declared.input.InputError.{InputError}
use Rattle.script_io.specs.declared.input.InputError.TheVariants.{NoMemory, TooLong, ReadFault}

-- own: some bytes were read, and no more than this many
abbrev pub ConsumesAtMost : Option (List ℕ) → Option (List ℕ) → ℕ → Type 0
ConsumesAtMost old new most = (bytes : List ℕ) × Consumes old new bytes × (length bytes ≤ most)

-- own: what was read before each error: one byte past the limit, or no more than the limit; and
-- memory is wanted only for bytes that were read
abbrev pub StopsReading : Option (List ℕ) → Option (List ℕ) → ℕ → InputError → Type 0
StopsReading old new most TooLong = (bytes : List ℕ) × Consumes old new bytes × (length bytes ≡ most + 1)
StopsReading old new most NoMemory = (bytes : List ℕ) × Consumes old new bytes × (0 < length bytes)
    × (length bytes ≤ most)
StopsReading old new most ReadFault = ConsumesAtMost old new most

-- own: whether an error says that a read failed
abbrev pub is_read_fault : InputError → Bool
is_read_fault ReadFault = true
is_read_fault error = false

-- own: whether an outcome of reading is such an error
abbrev pub fails_to_read : {A : Type 0} → Result A InputError → Bool
fails_to_read (Err error) = is_read_fault error
fails_to_read (Ok read) = false
