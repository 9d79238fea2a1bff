-- What was packed is read again: its head, and its rows and no others.
use Rattle.std.proofs.Common.{◌≡◌, ◌<◌, ◌≤◌, ℕ, zero, suc, List, [], ◌∷◌, Some, ap, arith, length, refl, slice_index_or}
use Rattle.std.proofs.Common.{subst, sym}
use Rattle.std.specs.Prelude.{IsSomeAnd, Option}
use Rattle.std.specs.Fmt.{decimal}
use Rattle.std.proofs.lemmas.Fmt.{length-decimal-le}
use Rattle.std.proofs.lemmas.List.{length-map}
use Rattle.grouping_model.specs.Datum.{Kind, Row, Bigint_kind, Null}
use Rattle.grouping_model.specs.declared.limits.TheConstants.{LAST_NUMBER, LAST_ORIGIN, MAX_ROWS}
use Rattle.packed_rows.specs.Columns.{Column, kinds}
use Rattle.packed_rows.specs.Field.{Reads, ReadsRow}
use Rattle.packed_rows.specs.Lemmas.FieldLaws.{one_row}
use Rattle.script_io.specs.Records.{Record}
use Rattle.batch_reader.specs.File.{BatchFile, FileFault, read_file}
use Rattle.batch_reader.specs.Head.{ReadsBatchNumber, ReadsOrigin}
use Rattle.batch_reader.specs.Refusal.{FirstFault, HeadReads}
use Rattle.batch_reader.specs.Rows.{ReadsRows}
use Rattle.batch_reader.specs.declared.error.BatchError.{BatchError}
use Rattle.batch_reader.specs.declared.error.BatchError.TheVariants.{NoMemory, BadBatchHead, TooManyRows, RowCount, WrongWidth, BadField}
use Rattle.plain_batches.specs.Columns.{arranged}
use Rattle.plain_batches.specs.Packed.{PacksPlain, batch_records, file_of}
use Rattle.plain_batches.specs.declared.layout.Layout.{Layout}
use Rattle.plain_batches.proofs.FileLaws.{number_again}

-- the head is read
pub reads_origin : (origin : ℕ) → origin ≤ LAST_ORIGIN → ReadsOrigin (decimal origin) origin
reads_origin origin within =
    let short : length (decimal origin) ≤ 10 = length-decimal-le 10 origin (omega arith) (omega arith) (omega arith) in
    record { reads = number_again 10 origin (omega arith) short; within = within }

pub reads_number : (number : ℕ) → 1 ≤ number → number ≤ LAST_NUMBER → ReadsBatchNumber (decimal number) number
reads_number number above within =
    let short : length (decimal number) ≤ 10 = length-decimal-le 10 number (omega arith) (omega arith) (omega arith) in
    record { reads = number_again 10 number (omega arith) short; above = above; within = within }

-- fields that stand for a row are as many as its columns, and each stands for its value
reads_width : (ks : List Kind) (fields : Record) (row : Row) → ReadsRow ks fields row → length fields ≡ length ks
reads_width [] [] [] reads = refl
reads_width (k ∷ ks) (f ∷ fields) (v ∷ row) reads = ap suc (reads_width ks fields row reads.1)
reads_width ks fields row reads = absurd reads

reads_at : (ks : List Kind) (fields : Record) (row : Row) (column : ℕ) → ReadsRow ks fields row → column < length ks
    → Reads (slice_index_or ks column Bigint_kind) (slice_index_or fields column []) (slice_index_or row column Null)
reads_at [] [] [] column reads within = absurd (omega arith)
reads_at (k ∷ ks) (f ∷ fields) (v ∷ row) zero reads within = reads.0
reads_at (k ∷ ks) (f ∷ fields) (v ∷ row) (suc column) reads within = reads_at ks fields row column reads.1 (omega arith)
reads_at ks fields row column reads within = absurd reads

-- the row of a record in its place
row_at : (ks : List Kind) (records : List Record) (rows : List Row) (place : ℕ) → ReadsRows ks records rows → place < length records
    → (row : Row) × ReadsRow ks (slice_index_or records place []) row
row_at ks [] [] place reads within = absurd (omega arith)
row_at ks (f ∷ records) (r ∷ rows) zero reads within = (r, reads.0)
row_at ks (f ∷ records) (r ∷ rows) (suc place) reads within = row_at ks records rows place reads.1 (omega arith)
row_at ks [] (r ∷ rows) place reads within = absurd reads
row_at ks (f ∷ records) [] place reads within = absurd reads

-- records that stand for rows have no fault
no_width_fault : (ks : List Kind) (records : List Record) (rows : List Row) (row : ℕ) → ReadsRows ks records rows
    → FirstFault ks records (WrongWidth row) → ⊥
no_width_fault ks records rows row reads first =
    let at = row_at ks records rows first.place reads first.within in
    first.fault.1 (reads_width ks (slice_index_or records first.place []) at.0 at.1)

no_field_fault : (ks : List Kind) (records : List Record) (rows : List Row) (row column : ℕ) → ReadsRows ks records rows
    → FirstFault ks records (BadField row column) → ⊥
no_field_fault ks records rows row column reads first =
    let fields = slice_index_or records first.place [] in
    let at = row_at ks records rows first.place reads first.within in
    let bad = first.fault.2 in
    bad.1 (slice_index_or at.0 column Null) (reads_at ks fields at.0 column at.1 bad.0)

-- a file of such records, whose head is read and tells their number, is refused only because memory ran out
for_memory : (ks : List Kind) (file : BatchFile) (rows : List Row) (error : BatchError) → HeadReads file.head.origin file.head.number
    → file.head.told ≤ MAX_ROWS → length file.records ≡ file.head.told → ReadsRows ks file.records rows → FileFault ks (Some file) error
    → error ≡ NoMemory
for_memory ks file rows NoMemory head few long reads fault = refl
for_memory ks file rows BadBatchHead head few long reads fault = absurd (fault head)
for_memory ks file rows TooManyRows head few long reads fault = absurd (omega (arith, fault.1, few))
for_memory ks file rows RowCount head few long reads fault = absurd (fault.2 long)
for_memory ks file rows (WrongWidth row) head few long reads fault = absurd (no_width_fault ks file.records rows row reads fault.3)
for_memory ks file rows (BadField row column) head few long reads fault =
    absurd (no_field_fault ks file.records rows row column reads fault.3)

pub refused_for_memory : (columns : List Column) (layout : Layout) (origin number : ℕ) (csv file : List ℕ) (error : BatchError)
    → origin ≤ LAST_ORIGIN → 1 ≤ number → number ≤ LAST_NUMBER → PacksPlain columns layout origin number csv file
    → FileFault (kinds columns) (read_file file) error → error ≡ NoMemory
refused_for_memory columns layout origin number csv file error low above high packed fault =
    let plain = packed.made.plain in
    let head : HeadReads (decimal origin) (decimal number) =
    record {
      origin_value = origin;
      number_value = number;
      reads_origin = reads_origin origin low;
      reads_number = reads_number number above high;
    } in
    for_memory (kinds columns) (file_of layout origin number plain) packed.values error head packed.made.few
    (length-map plain.rows (arranged layout.null.now plain.places)) packed.reads
    (subst (λ (read : Option BatchFile). FileFault (kinds columns) read error) packed.read_again fault)

-- records stand for one list of rows
one_rows : (ks : List Kind) (records : List Record) (a b : List Row) → ReadsRows ks records a → ReadsRows ks records b → a ≡ b
one_rows ks [] [] [] x y = refl
one_rows ks (f ∷ records) (r ∷ a) (s ∷ b) x y = λ i. one_row ks f r s x.0 y.0 i ∷ one_rows ks records a b x.1 y.1 i
one_rows ks [] (r ∷ a) b x y = absurd x
one_rows ks [] [] (s ∷ b) x y = absurd y
one_rows ks (f ∷ records) [] b x y = absurd x
one_rows ks (f ∷ records) (r ∷ a) [] x y = absurd y

pub same_rows : (columns : List Column) (layout : Layout) (origin number : ℕ) (csv file : List ℕ)
    → (packed : PacksPlain columns layout origin number csv file)
    → IsSomeAnd (read_file file) (λ read. (rows : List Row) → ReadsRows (kinds columns) read.records rows → rows ≡ packed.values)
same_rows columns layout origin number csv file packed =
    subst (λ (o : Option BatchFile). IsSomeAnd o (λ read. (rows : List Row) → ReadsRows (kinds columns) read.records rows
    → rows ≡ packed.values)) (sym packed.read_again) (λ rows reads. one_rows (kinds columns) (batch_records layout packed.made.plain) rows
    packed.values reads packed.reads)
