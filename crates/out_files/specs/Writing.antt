-- How a file is written. All of this is our own.
use Rattle.std.specs.Prelude.{◌≢◌, Option, IsSome, Result, IfOk}
use Rattle.out_files.specs.declared.trial.Place.{Place}
use Rattle.out_files.specs.declared.trial.Place.TheVariants.{Device}
use Rattle.out_files.specs.declared.writing.Unwritten.{Unwritten}

-- where old bytes are given, a file had them, and bytes that are written in their place are not written to a device or a pipe
abbrev pub SparesDevices : {Old : Type 0} → Option Old → Result Place Unwritten → Type 0
SparesDevices old result = IsSome old → IfOk result (λ place. place ≢ Device)
