-- The records of a script.
use Rattle.std.specs.Prelude.{ℕ, ◌+◌, List, length}
use Rattle.csv.specs.Reading.{default_config, records_from, strip_bom}
use Rattle.csv.specs.declared.parser.State.{State}
use Rattle.csv.specs.declared.parser.State.TheVariants as st

-- RFC 4180: a record is its fields, and a field its bytes
abbrev pub Record : Type 0
Record = List (List ℕ)

-- csv's definition: the records of a text that is read on from a state, with the default configuration
abbrev pub records_on : State → List ℕ → List Record
records_on state text = records_from default_config (length text + 1) state text

-- csv's definition: every record of a script, past a byte order mark
abbrev pub records_of : List ℕ → List Record
records_of script = records_on st.StartRecord (strip_bom script)
