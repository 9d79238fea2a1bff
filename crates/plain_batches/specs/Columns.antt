-- Which field of a record is whose column's. Where no source is named, the rule is our own.
use Rattle.std.specs.Prelude.{◌≡◌, ℕ, ◌<◌, List, [], map, length, slice_index_or, if◌then◌else◌}
use Rattle.std.specs.List.{AllZip}
use Rattle.std.specs.Char.{to_ascii_lowercase}
use Rattle.std.specs.Str.{bytes_eq}
use Rattle.grouping_model.specs.Datum.{null_field}
use Rattle.script_io.specs.Records.{Record}

-- two names are the same in any case of their letters (PostgreSQL 17, 4.1.1: names without quotes)
abbrev pub SameName : List ℕ → List ℕ → Type 0
SameName a b = map to_ascii_lowercase a ≡ map to_ascii_lowercase b

-- a header has this name in a place
abbrev pub IsNamed : Record → List ℕ → ℕ → Type 0
IsNamed header name place = SameName name (slice_index_or header place [])

-- a header has this name in no place
abbrev pub IsNowhere : Record → List ℕ → Type 0
IsNowhere header name = (place : ℕ) → place < length header → ¬ (IsNamed header name place)

-- a header has this name in this place alone
pub record IsAlone (header : Record) (name : List ℕ) (place : ℕ) : Type 0 where
  pub within : place < length header
  pub named : IsNamed header name place
  pub alone : (other : ℕ) → other < length header → IsNamed header name other → other ≡ place

-- name by name, the header has each in one place, and these are the places
abbrev pub ArePlaces : Record → Record → List ℕ → Type 0
ArePlaces header names places = AllZip (IsAlone header) names places

-- each name of the header is one of these
abbrev pub AreAmong : Record → Record → Type 0
AreAmong names header = (place : ℕ) → place < length header → ¬ (IsNowhere names (slice_index_or header place []))

-- a field as a batch has it: null for what stands for it
abbrev pub plain_field : List ℕ → List ℕ → List ℕ
plain_field null field = if bytes_eq field null then null_field else field

-- the fields of a record in the order of the columns, each from the column's place in the header
abbrev pub arranged : List ℕ → List ℕ → Record → Record
arranged null places fields = map (λ place. plain_field null (slice_index_or fields place [])) places
