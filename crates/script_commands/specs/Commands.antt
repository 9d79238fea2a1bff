-- The commands of a script, and what each asks. All of this is our own.
use Rattle.std.specs.Prelude.{ℕ, zero, suc, ◌==◌, ◌&&◌, ◌||◌, Bool, List, [], ◌∷◌, length, take, codes, nat_le, nat_lt, unwrap_or}
use Rattle.std.specs.Prelude.{if◌then◌else◌}
use Rattle.std.specs.Str.{bytes_eq, is_utf8}
use Rattle.std.specs.List.{list_all}
use Rattle.std.specs.Char.{is_ascii_alphanumeric}
use Rattle.std.specs.Option.{option_map_or}
use Rattle.grouping_model.specs.declared.limits.TheConstants.{MAX_NAME_LEN}
use Rattle.script_io.specs.Records.{Record}
use Rattle.script_io.specs.Digits.{row_count, limit_told}

-- what a command asks
pub data Request : Type 0 where
  Columns : (text : List ℕ) → Request
  Query : (text : List ℕ) → Request
  Limit : (bytes : ℕ) → Request
  Replica : (name : List ℕ) → Request
  Feed : (name origin number : List ℕ) (told : ℕ) → Request
  Known : (name : List ℕ) → Request
  Answer : (name : List ℕ) → Request
  Merge : (into from : List ℕ) → Request
  Save : (name saved : List ℕ) → Request
  Load : (name saved : List ℕ) → Request
  Unknown : Request

-- a command: the record that asks, and the records that belong to it
pub record Command : Type 0 where
  pub head : Record
  pub owned : List Record

-- a name: 1 to 63 letters, digits and underscores
abbrev pub is_name_byte : ℕ → Bool
is_name_byte b = is_ascii_alphanumeric b || (b == 95)

abbrev pub is_name : List ℕ → Bool
is_name bytes = nat_lt 0 (length bytes) && nat_le (length bytes) MAX_NAME_LEN && list_all is_name_byte bytes

-- what a word and a name ask
abbrev pub name_request : List ℕ → List ℕ → Request
name_request word name =
    if bytes_eq word (codes "replica") then Replica name else
    if bytes_eq word (codes "known") then Known name else
    if bytes_eq word (codes "answer") then Answer name else Unknown

-- what a word and one field ask
abbrev pub one_field : List ℕ → List ℕ → Request
one_field word field =
    if bytes_eq word (codes "columns") then (if is_utf8 field then Columns field else Unknown) else
    if bytes_eq word (codes "query") then (if is_utf8 field then Query field else Unknown) else
    if bytes_eq word (codes "limit") then option_map_or Limit (limit_told field) Unknown else
    if is_name field then name_request word field else Unknown

-- what a word and two names ask; a replica may be merged into itself
abbrev pub names_request : List ℕ → List ℕ → List ℕ → Request
names_request word name other =
    if bytes_eq word (codes "merge") then Merge name other else
    if bytes_eq word (codes "save") then Save name other else
    if bytes_eq word (codes "load") then Load name other else Unknown

-- what a word and two fields ask
abbrev pub two_fields : List ℕ → List ℕ → List ℕ → Request
two_fields word name other = if is_name name && is_name other then names_request word name other else Unknown

-- what a word and four fields ask
abbrev pub feed_request : List ℕ → List ℕ → List ℕ → List ℕ → List ℕ → Request
feed_request word name origin number rows =
    if bytes_eq word (codes "feed") && is_name name then option_map_or (Feed name origin number) (row_count rows) Unknown else Unknown

-- what a record asks: no command has another number of fields
unfoldable pub request_of : Record → Request
request_of (word ∷ field ∷ []) = one_field word field
request_of (word ∷ name ∷ other ∷ []) = two_fields word name other
request_of (word ∷ name ∷ origin ∷ number ∷ rows ∷ []) = feed_request word name origin number rows
request_of _ = Unknown

-- how many of the records after it belong to a record of this word that declares this number of rows. It may be wrong
-- otherwise
abbrev pub owned_rows : List ℕ → List ℕ → ℕ
owned_rows word rows = if bytes_eq word (codes "feed") then unwrap_or (row_count rows) 0 else 0

-- how many of the records after it belong to a record
unfoldable pub owned_by : Record → ℕ
owned_by (word ∷ name ∷ origin ∷ number ∷ rows ∷ []) = owned_rows word rows
owned_by _ = 0

-- the command of a record that asks, and of the records after it: it owns as many of these as it declares, or all if
-- there are fewer
abbrev pub command_at : Record → List Record → Command
command_at head after = record { head = head; owned = take (owned_by head) after }

-- the commands of these records, of which the first ones belong to a command before
unfoldable pub commands_after : ℕ → List Record → List Command
commands_after skipped [] = []
commands_after zero (head ∷ rest) = command_at head rest ∷ commands_after (owned_by head) rest
commands_after (suc skipped) (head ∷ rest) = commands_after skipped rest

-- the commands of these records
abbrev pub commands_of : List Record → List Command
commands_of records = commands_after 0 records
