-- The text of a batch file, read again.
use Rattle.std.proofs.Common.{◌≡◌, ◌≤◌, ◌<◌, ◌+◌, ◌^◌, ◌∙◌, ℕ, zero, suc, List, [], ◌∷◌, ◌++◌, true, Option, Some}
use Rattle.std.proofs.Common.{ap, refl, arith, length, map, flat_map, codes, subst}
use Rattle.std.specs.Prelude.{if◌then◌else◌, option_map, nat_lt, nat_le}
use Rattle.std.specs.List.{AllByRecursion, list_all}
use Rattle.std.specs.Char.{is_ascii_digit}
use Rattle.std.specs.Fmt.{decimal}
use Rattle.std.specs.Str.Parse.{AllDigits}
use Rattle.std.proofs.lemmas.Bool.{le-leb, lt-ltb}
use Rattle.std.proofs.lemmas.Fmt.{decimal_is_IsNumeral, length-decimal-le}
use Rattle.std.proofs.lemmas.List.{length-append, length-map}
use Rattle.std.proofs.lemmas.Str.Parse.{digit_from_value}
use Rattle.csv.proofs.RoundTrip.{read-write}
use Rattle.csv.specs.Machine.{next_record}
use Rattle.csv.specs.Reading.{default_config, records_from, records_next, strip_bom}
use Rattle.csv.specs.Writing.{default_writer, is_blank, read_back, row_body, row_text}
use Rattle.csv.specs.declared.parser.State.TheVariants as st
use Rattle.grouping_model.specs.Datum.{Kind}
use Rattle.packed_rows.specs.Columns.{Column, names}
use Rattle.grouping_model.specs.declared.limits.TheConstants.{MAX_ROWS}
use Rattle.script_io.specs.Digits.{number_of}
use Rattle.script_io.specs.Records.{Record, records_of}
use Rattle.batch_reader.specs.File.{BatchFile, FileFault, FileHead, batch_file, file_head, read_file}
use Rattle.batch_reader.specs.Refusal.{FirstFault}
use Rattle.batch_reader.specs.declared.error.BatchError.{BatchError}
use Rattle.batch_reader.specs.declared.error.BatchError.TheVariants.{BadField}
use Rattle.plain_batches.specs.Columns.{arranged}
use Rattle.plain_batches.specs.Packed.{MakesFile, batch_records, file_of, file_text, head_fields, head_of}
use Rattle.plain_batches.specs.declared.layout.Layout.{Layout}
use Rattle.plain_batches.proofs.PlainLaws.{places_long}

-- the lines of records
abbrev pub lines : List Record → List ℕ
lines records = flat_map (row_text default_writer) records

-- records that have a field each
abbrev pub HaveFields : List Record → Type 0
HaveFields records = AllByRecursion (λ fields. 0 < length fields) records

back_is : (fields : Record) → 0 < length fields → read_back fields ≡ fields
back_is [] h = absurd (omega arith)
back_is (x ∷ rest) h = refl

-- lines are read as the records that they were written of, by more turns than there are records
pub lines_again : (records : List Record) (n : ℕ) → HaveFields records → length records < n
    → records_from default_config n st.StartRecord (lines records) ≡ records
unfolding records_from next_record
lines_again records zero some h = absurd (omega arith)
lines_again [] (suc n) some h = refl
lines_again (fields ∷ records) (suc n) some h =
    ap (records_next (records_from default_config n)) (read-write fields (lines records))
    ∙ ap (λ first. first ∷ records_from default_config n st.StartRecord (lines records)) (back_is fields some.0)
    ∙ ap (λ rest. fields ∷ rest) (lines_again records n some.1 (omega arith))

-- a line has a byte at least
line_long : (fields : Record) → 1 ≤ length (row_text default_writer fields)
line_long fields =
    let blank = if is_blank default_writer fields then 34 ∷ 34 ∷ [] else [] in
    let body = length-append (row_body default_writer fields) (blank ++ 10 ∷ []) in
    let tail = length-append blank (10 ∷ []) in
    omega (arith, body, tail)

pub lines_long : (records : List Record) → length records ≤ length (lines records)
lines_long [] = omega arith
lines_long (fields ∷ records) =
    let both = length-append (row_text default_writer fields) (lines records) in
    let first = line_long fields in
    let rest = lines_long records in
    omega (arith, both, first, rest)

-- arranged fields are as many as the places
pub arranged_fields : (null : List ℕ) (places : List ℕ) (rows : List Record) → 0 < length places → HaveFields
    (map (arranged null places) rows)
arranged_fields null places [] some = tt
arranged_fields null [] (fields ∷ rows) some = absurd (omega arith)
arranged_fields null (place ∷ places) (fields ∷ rows) some = (omega arith, arranged_fields null (place ∷ places) rows some)

-- ---- the head

digits_all : (ds : List ℕ) → AllDigits 10 ds → list_all is_ascii_digit ds ≡ true
digits_all [] h = refl
digits_all (d ∷ ds) h =
    let within = digit_from_value d h.0 in
    rw (le-leb 48 d within.0, le-leb d 57 within.1) (digits_all ds h.1)

-- a number in decimal is read as itself
pub number_again : (most n : ℕ) → n < 2 ^ 64 → length (decimal n) ≤ most → number_of most (decimal n) ≡ Some n
number_again most n small short =
    let numeral = decimal_is_IsNumeral n small in
    let some : nat_lt 0 (length (decimal n)) ≡ true = lt-ltb 0 (length (decimal n)) numeral.0.0 in
    let few : nat_le (length (decimal n)) most ≡ true = le-leb (length (decimal n)) most short in
    rw (some, few, digits_all (decimal n) numeral.0.1) (ap Some numeral.1)

-- how many rows a head tells
told_again : (origin number : List ℕ) (told : ℕ) → told ≤ MAX_ROWS
    → file_head (codes "batch" ∷ origin ∷ number ∷ decimal told ∷ []) ≡ Some (record { origin = origin; number = number; told = told })
unfolding file_head
told_again origin number told few =
    let short : length (decimal told) ≤ 9 = length-decimal-le 9 told (omega arith) (omega arith) (omega arith) in
    ap (option_map (λ (n : ℕ). record { origin = origin; number = number; told = n })) (number_again 9 told (omega arith) short)

-- a batch file begins with no byte order mark
no_mark : (file : BatchFile) → strip_bom (file_text file) ≡ file_text file
unfolding strip_bom
no_mark file = refl

-- a batch file as text is read as itself
pub file_again : (origin number : ℕ) (told : ℕ) (records : List Record) (file : List ℕ) → HaveFields records → told ≤ MAX_ROWS
    → file ≡ file_text (record { head = head_of origin number told; records = records })
    → read_file file ≡ Some (record { head = head_of origin number told; records = records })
file_again origin number told records file some few is =
    let made : BatchFile = record { head = head_of origin number told; records = records } in
    let all = head_fields made.head ∷ records in
    let long = lines_long all in
    let short : length all < length (lines all) + 1 = omega (arith, long) in
    let read : records_of (file_text made) ≡ all =
    ap (λ (text : List ℕ). records_from default_config (length text + 1) st.StartRecord text) (no_mark made)
    ∙ lines_again all (length (lines all) + 1) (omega arith, some) short in
    ap read_file is ∙ ap batch_file read
    ∙ ap (option_map (λ (head : FileHead). record { head = head; records = records })) (told_again (decimal origin) (decimal
    number) told few)

-- what was made of a plain CSV is read as the batch file of its rows
pub made_again : (columns : List Column) (layout : Layout) (origin number : ℕ) (csv file : List ℕ) → 1 ≤ length columns
    → (made : MakesFile columns layout origin number csv file) → read_file file ≡ Some (file_of layout origin number made.plain)
made_again columns layout origin number csv file some made =
    let plain = made.plain in
    let named = length-map columns (λ c. c.name) in
    let long = places_long plain.header (names columns) plain.places made.is_plain.at in
    let places : 0 < length plain.places = omega (arith, some, named, long) in
    file_again origin number (length plain.rows) (batch_records layout plain) file
    (arranged_fields layout.null.now plain.places plain.rows places) made.few made.text

-- the first field of such a file that stands for no value
pub bad_field : (kinds : List Kind) (read : Option BatchFile) (file : BatchFile) (error : BatchError) (row column : ℕ) → read ≡ Some file
    → error ≡ BadField row column → FileFault kinds read error → FirstFault kinds file.records (BadField row column)
bad_field kinds read file error row column is bad fault =
    let of_file = subst (λ (r : Option BatchFile). FileFault kinds r error) is fault in
    let of_field = subst (λ (e : BatchError). FileFault kinds (Some file) e) bad of_file in
    of_field.3
