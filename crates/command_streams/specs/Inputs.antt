-- Why a file is not read. All of this is our own.
use Rattle.std.specs.Prelude.{◌≡◌, ℕ, Bool, List, Option}
use Rattle.grouping_model.specs.declared.limits.TheConstants.{MAX_INPUT_LEN}
use Rattle.script_io.specs.Input.{StopsReading, is_read_fault}
use Rattle.script_io.specs.declared.input.InputError.{InputError}
use Rattle.refusals.specs.Refusals.{run_error, run_refusal}
use Rattle.refusals.specs.declared.error.RunError.TheVariants.{InputTooLong, ReadFault}
use Rattle.refusals.specs.declared.refusal.Refusal.{Refusal}
use Rattle.refusals.specs.declared.refusal.Refusal.TheVariants.{NoMemory, Run}

-- why a file was not read: memory ran out, it is too long, or the system failed
abbrev pub IsUnread : Refusal → Type 0
IsUnread NoMemory = Unit {0}
IsUnread (Run InputTooLong) = Unit {0}
IsUnread (Run ReadFault) = Unit {0}
IsUnread why = ⊥

-- why standard input was not read, by what it had left before and after that: it is too long where it gave one byte more than are read,
-- and a fault exactly where it failed
abbrev pub StopsInput : (old new : Option (List ℕ)) → (has_failed : Bool) → Refusal → Type 0
StopsInput old new has_failed why = (error : InputError) × (why ≡ run_refusal (run_error error)) × StopsReading old new MAX_INPUT_LEN error
    × (is_read_fault error ≡ has_failed)
