-- Which origin and which number the header of a batch states, each a field of 1 to 10 digits. All of this is our own.
use Rattle.std.specs.Prelude.{◌≡◌, ℕ, ◌≤◌, List, Some}
use Rattle.grouping_model.specs.declared.limits.TheConstants.{LAST_ORIGIN, LAST_NUMBER}
use Rattle.script_io.specs.Digits.{number_of}

-- the field is this origin
pub record ReadsOrigin (field : List ℕ) (origin : ℕ) : Type 0 where
  pub reads : number_of 10 field ≡ Some origin
  pub within : origin ≤ LAST_ORIGIN

-- the field is this number of a batch
pub record ReadsBatchNumber (field : List ℕ) (number : ℕ) : Type 0 where
  pub reads : number_of 10 field ≡ Some number
  pub above : 1 ≤ number
  pub within : number ≤ LAST_NUMBER
