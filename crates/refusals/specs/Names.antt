-- The names of refusals. All of this is our own.
use Rattle.std.specs.Prelude.{ℕ, List, codes}
use Rattle.group_parser.specs.Names.{parse_name}
use Rattle.batch_reader.specs.Names.{batch_name}
use Rattle.summary_codec.specs.Names.{summary_name}
use Rattle.refusals.specs.declared.refusal.Refusal.{Refusal}
use Rattle.refusals.specs.declared.refusal.Refusal.TheVariants.{NoMemory, BadSchema, Limit, Query, Batch, Summary, DifferentQuery}
use Rattle.refusals.specs.declared.refusal.Refusal.TheVariants.{OriginDisagrees, TapeFault, TapeDamaged, Run, BadCommand, NoSuchName}
use Rattle.refusals.specs.declared.refusal.Refusal.TheVariants.{NameTaken}
use Rattle.refusals.specs.declared.error.RunError.{RunError}
use Rattle.refusals.specs.declared.error.RunError.TheVariants as stop

-- the name of what stops a run
abbrev pub run_name : RunError → List ℕ
run_name stop.NoMemory = codes "NoMemory"
run_name stop.InputTooLong = codes "InputTooLong"
run_name stop.ReadFault = codes "ReadFault"
run_name stop.WriteFault = codes "WriteFault"

-- the name of a refusal. What a lower crate refuses has its name there
abbrev pub refusal_name : Refusal → List ℕ
refusal_name NoMemory = codes "NoMemory"
refusal_name BadSchema = codes "BadSchema"
refusal_name (Limit error) = codes "LimitOutOfRange"
refusal_name (Query error) = parse_name error
refusal_name (Batch error) = batch_name error
refusal_name (Summary error) = summary_name error
refusal_name DifferentQuery = codes "DifferentQuery"
refusal_name (OriginDisagrees origin number) = codes "OriginDisagrees"
refusal_name TapeFault = codes "TapeFault"
refusal_name TapeDamaged = codes "TapeDamaged"
refusal_name (Run error) = run_name error
refusal_name BadCommand = codes "BadCommand"
refusal_name NoSuchName = codes "NoSuchName"
refusal_name NameTaken = codes "NameTaken"
