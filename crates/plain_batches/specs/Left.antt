-- What a reader of plain records has left.
use Rattle.std.specs.Prelude.{◌≡◌, ℕ, List, [], Option, Some, IsSome, unwrap_or, false, true, if◌then◌else◌}
use Rattle.std.specs.Borrow.{Bor}
use Rattle.csv.specs.Machine.{ends_at_end}
use Rattle.csv.specs.Reading.{Ready, is_flexible, reader_config, reader_state, reader_trim, source_of}
use Rattle.csv.specs.declared.reader.Trim.TheVariants as trim
use Rattle.script_io.specs.Records.{Record}
use Rattle.plain_batches.specs.Plain.{config_of, records_on}
use Rattle.plain_batches.specs.declared.records.PlainRecords.TheInside.{Inside}

-- csv's definition: the bytes that are left, where the reader has not failed
abbrev pub bytes_left : Inside → Option (List ℕ)
bytes_left r = source_of (λ (s : Bor (List ℕ)). Some s.now) r.reader

-- own: the byte between two fields
abbrev pub delimiter_of : Inside → ℕ
delimiter_of r = (reader_config r.reader).delimiter

-- own: the reader stands between two records, and takes a record of any width
abbrev pub IsBetween : Inside → Type 0
IsBetween r = IsSome (bytes_left r) × (reader_trim r.reader ≡ trim.None) × Ready r.reader
    × (is_flexible r.reader ≡ true) × (reader_config r.reader ≡ config_of (delimiter_of r))
    × (ends_at_end (reader_state r.reader) ≡ false)

-- own: the reader reads on, where it has not come to the end
abbrev pub IsReading : Inside → Type 0
IsReading r = r.has_ended ≡ false → IsBetween r

-- own: the records that are left
abbrev pub records_left : Inside → List Record
records_left r = if r.has_ended then [] else records_on (delimiter_of r) (reader_state r.reader) (unwrap_or (bytes_left r) [])
