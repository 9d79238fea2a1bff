-- How a command ends that stops. All of this is our own.
use Rattle.std.specs.Prelude.{◌≡◌, ℕ, ◌⊎◌, List, Option}
use Rattle.std.specs.Io.KnownBytes.{Appends}
use Rattle.script_io.specs.Output.{StopsShort}
use Rattle.replies.specs.Status.{refusal_ending}
use Rattle.replies.specs.declared.ending.ExitKind.{ExitKind}
use Rattle.replies.specs.declared.ending.ExitKind.TheVariants.{Fault}
use Rattle.refusals.specs.declared.refusal.Refusal.{Refusal}
use Rattle.refusals.specs.declared.refusal.Refusal.TheVariants.{TapeFault}

-- how a command ends that a refusal stops: where the spill file failed, as where any other did
abbrev pub ending_of : Refusal → ExitKind
ending_of TapeFault = Fault
ending_of why = refusal_ending why

-- a command ends as its refusal tells, or, where the reply could not be written, by a fault
abbrev pub EndsRefused : Refusal → ExitKind → Type 0
EndsRefused why exit = (exit ≡ ending_of why) ⊎ (exit ≡ Fault)

-- the reply that says so was written whole, and the command ends as its refusal tells. Or its last byte was not, and the command ends by a
-- fault
abbrev pub RepliesRefused : (line : List ℕ) → (old new : Option (List ℕ)) → Refusal → ExitKind → Type 0
RepliesRefused line old new why exit =
    ((exit ≡ ending_of why) × Appends old new line) ⊎ ((exit ≡ Fault) × StopsShort old new line)
