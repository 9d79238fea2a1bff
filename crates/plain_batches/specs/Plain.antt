-- The records of a plain CSV.
use Rattle.std.specs.Prelude.{◌+◌, ℕ, Bool, true, false, List, [], ◌∷◌, length, Option, Some, None}
use Rattle.csv.specs.Reading.{default_config, records_from, strip_bom}
use Rattle.csv.specs.declared.parser.Config.{Config}
use Rattle.csv.specs.declared.parser.State.{State}
use Rattle.csv.specs.declared.parser.State.TheVariants as st
use Rattle.script_io.specs.Records.{Record}

-- RFC 4180 as csv reads it by default, but for the byte between two fields
abbrev pub config_of : ℕ → Config
config_of delimiter = record default_config { delimiter = delimiter }

-- csv's definition: the records of a text that is read on from a state
abbrev pub records_on : ℕ → State → List ℕ → List Record
records_on delimiter state text = records_from (config_of delimiter) (length text + 1) state text

-- csv's definition: every record of a plain CSV, past a byte order mark
abbrev pub plain_records : ℕ → List ℕ → List Record
plain_records delimiter csv = records_on delimiter st.StartRecord (strip_bom csv)

-- own: the names of the columns, and the records of the rows: the first record names them, or else the schema does
abbrev pub parts_of : Bool → Record → List Record → Option (Record × List Record)
parts_of false names records = Some (names, records)
parts_of true names [] = None
parts_of true names (first ∷ records) = Some (first, records)
