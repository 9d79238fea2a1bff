-- Fields of a record one by one, and records one by one: the rows or the first fault, and how many there are.
use Rattle.std.specs.Prelude.{◌≡◌, ◌≢◌, ℕ, suc, ◌+◌, ◌<◌, ◌≤◌, List, [], ◌∷◌, ◌++◌, drop, take, length, slice_index_or, Option, Some, None}
use Rattle.std.specs.Prelude.{is_some, false, true, MatchOption, Result, Ok, Err, IfErr, OnOk}
use Rattle.std.proofs.Common.{refl, sym, ◌∙◌, ap, subst, add-zero, arith}
use Rattle.std.proofs.lemmas.List.{drop_all, drop-drop, length-drop, length-map, length-take, get_or-drop, get_or-map, get_or-take}
use Rattle.std.specs.Result.{result_err}
use Rattle.std.proofs.lemmas.Bool.{false≢true}
use Rattle.csv.specs.Records.{fields_of}
use Rattle.csv.specs.declared.record.ByteRecord.{ByteRecord}
use Rattle.grouping_model.specs.Datum.{Datum, Kind, Row, Bigint_kind}
use Rattle.grouping_model.specs.declared.limits.TheConstants.{MAX_ROWS}
use Rattle.packed_rows.specs.Lemmas.RowLaws.{PackedSoFar, packed_all, packed_more}
use Rattle.packed_rows.specs.Field.{IsBadField, Reads, ReadsRow}
use Rattle.packed_rows.specs.Packing.{packing, value_packing}
use Rattle.packed_rows.specs.View.{kind_of, kinds_of}
use Rattle.packed_rows.specs.declared.value.ValueKind.{ValueKind}
use Rattle.packed_rows.specs.declared.value.ValueKind.TheVariants as kind
use Rattle.batch_reader.specs.Rows.{ReadsRows, packings, records_of}
use Rattle.batch_reader.specs.Refusal.{BuildFault, HeadReads, RecordFault, RowsFault}
use Rattle.batch_reader.specs.declared.error.BatchError.{BatchError}
use Rattle.batch_reader.specs.declared.error.BatchError.TheVariants.{NoMemory, WrongWidth, BadField}
use Rattle.batch_reader.specs.Lemmas.RecordLaws.{RowsSoFar, rows_more, rows_all}

kind_at : (ks : List ValueKind) (kinds : List Kind) (i : ℕ) → kinds_of ks ≡ kinds → i < length ks → slice_index_or kinds i Bigint_kind
    ≡ kind_of (slice_index_or ks i kind.Bigint)
kind_at ks kinds i e within = ap (λ (w : List Kind). slice_index_or w i Bigint_kind) (sym e)
    ∙ get_or-map kind_of ks i kind.Bigint Bigint_kind within

same_width : (ks : List ValueKind) (kinds : List Kind) → kinds_of ks ≡ kinds → length ks ≡ length kinds
same_width ks kinds e = sym (length-map ks kind_of) ∙ ap length e

-- the leftmost bad field of a record
pub bad_field : (ks : List ValueKind) (kinds : List Kind) (row : ℕ) (fields : List (List ℕ)) (i : ℕ) (bytes : List ℕ) → kinds_of ks ≡ kinds
    → length fields ≡ length ks → i < length ks
    → PackedSoFar kinds fields i bytes → IsBadField (kind_of (slice_index_or ks i kind.Bigint)) (slice_index_or fields i [])
    → RecordFault kinds row fields (BadField row i)
bad_field ks kinds row fields i bytes e width within so_far bad =
    let w = same_width ks kinds e in
    (refl, width ∙ w, (omega (arith, w), rw (kind_at ks kinds i e within) bad, so_far.0, so_far.1))

-- a field more
pub next_field : (ks : List ValueKind) (kinds : List Kind) (fields : List (List ℕ)) (i : ℕ) (bytes : List ℕ) (value : Datum) → kinds_of ks
    ≡ kinds → length fields ≡ length ks → i < length ks
    → PackedSoFar kinds fields i bytes → Reads (kind_of (slice_index_or ks i kind.Bigint)) (slice_index_or fields i []) value
    → PackedSoFar kinds fields (i + 1) (bytes ++ value_packing value)
next_field ks kinds fields i bytes value e width within so_far reads =
    let w = same_width ks kinds e in
    packed_more kinds fields i bytes Bigint_kind [] value (omega (arith, w)) (omega (arith, width)) (rw (kind_at ks kinds i e within) reads)
    so_far

-- all fields
pub all_fields : (ks : List ValueKind) (kinds : List Kind) (fields : List (List ℕ)) (i : ℕ) (bytes : List ℕ) → kinds_of ks ≡ kinds
    → length fields ≡ length ks → length ks ≡ i
    → PackedSoFar kinds fields i bytes → (row : Row) × ReadsRow kinds fields row × (bytes ≡ packing row)
all_fields ks kinds fields i bytes e width all so_far =
    let w = same_width ks kinds e in
    packed_all kinds fields bytes (width ∙ w) (subst (λ n. PackedSoFar kinds fields n bytes) (sym all ∙ w) so_far)

-- the first record that stands for no row
pub first_fault : (kinds : List Kind) (records : List (List (List ℕ))) (i : ℕ) (bytes : List (List ℕ)) (fields : List (List ℕ))
    (error : BatchError) → i < length records → slice_index_or records i [] ≡ fields → RowsSoFar kinds records i bytes
    → RecordFault kinds i fields error → RowsFault kinds records error
first_fault kinds records i bytes fields NoMemory within at s fault = tt
first_fault kinds records i bytes fields (WrongWidth row) within at s fault = record {
  place = i;
  within = within;
  before = (s.0, s.1);
  fault = subst (λ f. RecordFault kinds i f (WrongWidth row)) (sym at) fault;
}
first_fault kinds records i bytes fields (BadField row column) within at s fault = record {
  place = i;
  within = within;
  before = (s.0, s.1);
  fault = subst (λ f. RecordFault kinds i f (BadField row column)) (sym at) fault;
}
first_fault kinds records i bytes fields error within at s fault = absurd fault

-- what is kept of records that are packed one by one: the rows of the first ones, or the first fault
abbrev pub KeptSoFar : List Kind → List (List (List ℕ)) → ℕ → Option BatchError → List (List ℕ) → Type 0
KeptSoFar kinds records i fault bytes = MatchOption fault (RowsSoFar kinds records i bytes) (RowsFault kinds records)

pub kept_rows : (kinds : List Kind) (records : List (List (List ℕ))) (i : ℕ) (fault : Option BatchError) (bytes : List (List ℕ))
    → is_some fault ≡ false
    → KeptSoFar kinds records i fault bytes → RowsSoFar kinds records i bytes
kept_rows kinds records i None bytes none kept = kept
kept_rows kinds records i (Some error) bytes none kept = absurd (false≢true (sym none))

pub kept_fault : (kinds : List Kind) (records : List (List (List ℕ))) (i j : ℕ) (fault : Option BatchError) (bytes : List (List ℕ))
    → is_some fault ≡ true
    → KeptSoFar kinds records i fault bytes → KeptSoFar kinds records j fault bytes
kept_fault kinds records i j None bytes some kept = absurd (false≢true some)
kept_fault kinds records i j (Some error) bytes some kept = kept

pub kept_more : {X : Type 0} (kinds : List Kind) (records : List (List (List ℕ))) (i : ℕ) (result : Result X BatchError)
    (bytes more : List (List ℕ)) (fields : List (List ℕ))
    → i < length records → slice_index_or records i [] ≡ fields → RowsSoFar kinds records i bytes
    → OnOk result ((row : Row) × ReadsRow kinds fields row × (more ≡ bytes ++ packing row ∷ [])) → IfErr result (RecordFault kinds i fields)
    → KeptSoFar kinds records (i + 1) (result_err result) more
kept_more kinds records i (Ok x) bytes more fields within at s pushed refused =
    subst (RowsSoFar kinds records (i + 1)) (sym pushed.2) (rows_more kinds records i bytes fields pushed.0 (packing pushed.0) within at
    pushed.1 refl s)
kept_more kinds records i (Err error) bytes more fields within at s pushed refused = first_fault kinds records i bytes fields error within
    at s refused

-- the fields of a record in its place
pub record_at : (rs : List ByteRecord) (i : ℕ) (r : ByteRecord) → i < length rs → r ≡ slice_index_or rs i r
    → slice_index_or (records_of rs) i [] ≡ fields_of r
record_at rs i r within is = get_or-map fields_of rs i r [] within ∙ ap fields_of (sym is)

pub records_long : (rs : List ByteRecord) → length (records_of rs) ≡ length rs
records_long rs = length-map rs fields_of

-- the record at a place, of those that are told
pub told_item : (told i : ℕ) (all rest : List (List (List ℕ))) (fields : List (List ℕ)) → i < told → drop i all ≡ fields ∷ rest
    → (i < length (take told all)) × (slice_index_or (take told all) i [] ≡ fields) × (drop (i + 1) all ≡ rest)
told_item told i all rest fields short is =
    let left = length-drop i all in
    let some : i < length all = grind (arith, ap length is, left) in
    let within : i < length (take told all) = omega (arith, length-take told all, some) in
    let at : slice_index_or all i [] ≡ fields = ap (λ n. slice_index_or all n []) (sym (add-zero i)) ∙ sym (get_or-drop i all 0 [])
    ∙ ap (λ l. slice_index_or l 0 []) is in
    (within, get_or-take told all i [] short ∙ at, sym (drop-drop 1 i all) ∙ ap (drop 1) is)

-- fewer records are there than are told
pub fewer_told : (told i : ℕ) (all : List (List (List ℕ))) → i < told → drop i all ≡ [] → (length (take told all) ≢ told)
    × (drop told all ≡ [])
fewer_told told i all short is =
    let left = length-drop i all in
    let none : length all ≤ i = grind (arith, ap length is, left) in
    ((λ e. omega (arith, length-take told all, e, none)), drop_all told all (omega (arith, none)))

-- as many rows as records
pub rows_long : (kinds : List Kind) (records : List (List (List ℕ))) (rows : List Row) → ReadsRows kinds records rows
    → length (packings rows) ≡ length records
rows_long kinds [] [] r = refl
rows_long kinds (f ∷ records) (row ∷ rows) r = ap (λ n. suc n) (rows_long kinds records rows r.1)
rows_long kinds [] (row ∷ rows) r = absurd r
rows_long kinds (f ∷ records) [] r = absurd r

pub packed_long : (kinds : List Kind) (rs : List ByteRecord) (bytes : List (List ℕ)) → (rows : List Row)
    × ReadsRows kinds (records_of rs) rows × (bytes ≡ packings rows) → length bytes ≡ length rs
packed_long kinds rs bytes packed = ap length packed.2 ∙ rows_long kinds (records_of rs) packed.0 packed.1 ∙ records_long rs

-- as many as are told were read
pub all_told : {X : Type 0} (records : List X) (told i : ℕ) → i ≡ told → i ≤ length records → length (take told records) ≡ told
all_told records told i last within = omega (arith, last, within, length-take told records)

-- what is kept then: all rows, or the fault of the batch
pub kept_all : (kinds : List Kind) (records : List (List (List ℕ))) (i : ℕ) (fault : Option BatchError) (bytes : List (List ℕ))
    → length records ≡ i → fault ≡ None
    → KeptSoFar kinds records i fault bytes → (rows : List Row) × ReadsRows kinds records rows × (bytes ≡ packings rows)
kept_all kinds records i fault bytes long none kept = rows_all kinds records i bytes long
    (kept_rows kinds records i fault bytes (ap is_some none) kept)

fault_built : (kinds : List Kind) (origin number : List ℕ) (told : ℕ) (records : List (List (List ℕ))) (why : BatchError)
    → HeadReads origin number → told ≤ MAX_ROWS → length records ≡ told
    → RowsFault kinds records why → BuildFault kinds origin number told records why
fault_built kinds origin number told records NoMemory head few long fault = tt
fault_built kinds origin number told records (WrongWidth row) head few long fault = (head, few, long, fault)
fault_built kinds origin number told records (BadField row column) head few long fault = (head, few, long, fault)
fault_built kinds origin number told records error head few long fault = absurd fault.fault

pub kept_built : (kinds : List Kind) (origin number : List ℕ) (told : ℕ) (records : List (List (List ℕ))) (i : ℕ)
    (fault : Option BatchError) (bytes : List (List ℕ)) (why : BatchError) → HeadReads origin number → told ≤ MAX_ROWS → length records
    ≡ told → fault ≡ Some why
    → KeptSoFar kinds records i fault bytes → BuildFault kinds origin number told records why
kept_built kinds origin number told records i fault bytes why head few long is kept =
    fault_built kinds origin number told records why head few long (subst (λ f. KeptSoFar kinds records i f bytes) is kept)
