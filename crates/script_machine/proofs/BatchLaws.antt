-- A feed is one batch, or has one fault, and never both.
use Rattle.std.specs.Prelude.{◌≡◌, ◌≢◌, ◌≤◌, ◌<◌, refl, ℕ, zero, suc, List, [], ◌∷◌, length, take, Some, slice_index_or, ◌⊎◌}
use Rattle.std.proofs.Common.{◌∙◌, ap, sym, subst, arith, inl, inr}
use Rattle.std.proofs.lemmas.List.{length-take, get_or-take}
use Rattle.std.proofs.lemmas.Bool.{cases_order}
use Rattle.std.proofs.lemmas.Option.{same_Some}
use Rattle.script_machine.proofs.Words.{MAX_ROWS, Datum, Kind, Row, Bigint_kind, ReadsRows, BatchError, Record, Fed, IsBatch}
use Rattle.packed_rows.specs.Field.{Reads, ReadsRow, IsLeftmostBad}
use Rattle.packed_rows.specs.Lemmas.FieldLaws.{one_row}
use Rattle.script_io.specs.Digits.{number_of}
use Rattle.batch_reader.specs.Refusal.{RecordFault, FirstFault, BuildFault}
use Rattle.batch_reader.specs.declared.error.BatchError.TheVariants as batch

one_number : (field : List ℕ) (m n : ℕ) → number_of 10 field ≡ Some m → number_of 10 field ≡ Some n → m ≡ n
one_number field m n a b = same_Some m n (sym a ∙ b)

one_rows : (ks : List Kind) (records : List (List (List ℕ))) (xs ys : List Row) → ReadsRows ks records xs → ReadsRows ks records ys → xs
    ≡ ys
one_rows ks [] [] [] a b = refl
one_rows ks [] [] (y ∷ ys) a b = absurd b
one_rows ks [] (x ∷ xs) ys a b = absurd a
one_rows ks (f ∷ fs) [] ys a b = absurd a
one_rows ks (f ∷ fs) (x ∷ xs) [] a b = absurd b
one_rows ks (f ∷ fs) (x ∷ xs) (y ∷ ys) a b = λ i. one_row ks f x y a.0 b.0 i ∷ one_rows ks fs xs ys a.1 b.1 i

pub one_fed : (ks : List Kind) (origin number : List ℕ) (told : ℕ) (records : List Record) (x y : Fed)
    → IsBatch ks origin number told records x
    → IsBatch ks origin number told records y → x ≡ y
one_fed ks origin number told records x y a b =
    λ i. record {
      origin = one_number origin x.origin y.origin a.origin_is.reads b.origin_is.reads i;
      number = one_number number x.number y.number a.number_is.reads b.number_is.reads i;
      rows = one_rows ks records x.rows y.rows a.rows_are b.rows_are i;
    }

-- the row of a record, and the value of a field, that were read
row_at : (ks : List Kind) (records : List (List (List ℕ))) (rows : List Row) (place : ℕ) → ReadsRows ks records rows
    → place < length records
    → (row : Row) × ReadsRow ks (slice_index_or records place []) row
row_at ks [] rows place reads low = absurd (omega arith)
row_at ks (f ∷ fs) [] place reads low = absurd reads
row_at ks (f ∷ fs) (x ∷ xs) zero reads low = (x, reads.0)
row_at ks (f ∷ fs) (x ∷ xs) (suc place) reads low = row_at ks fs xs place reads.1 (omega arith)

value_at : (ks : List Kind) (fields : List (List ℕ)) (row : Row) (column : ℕ) → ReadsRow ks fields row → column < length ks
    → (value : Datum) × Reads (slice_index_or ks column Bigint_kind) (slice_index_or fields column []) value
value_at [] fields row column reads low = absurd (omega arith)
value_at (k ∷ ks) [] row column reads low = absurd reads
value_at (k ∷ ks) (f ∷ fs) [] column reads low = absurd reads
value_at (k ∷ ks) (f ∷ fs) (v ∷ row) zero reads low = (v, reads.0)
value_at (k ∷ ks) (f ∷ fs) (v ∷ row) (suc column) reads low = value_at ks fs row column reads.1 (omega arith)

as_wide : (ks : List Kind) (fields : List (List ℕ)) (row : Row) → ReadsRow ks fields row → length fields ≡ length ks
as_wide [] [] row reads = refl
as_wide [] (f ∷ fs) row reads = absurd reads
as_wide (k ∷ ks) [] row reads = absurd reads
as_wide (k ∷ ks) (f ∷ fs) [] reads = absurd reads
as_wide (k ∷ ks) (f ∷ fs) (v ∷ row) reads = ap suc (as_wide ks fs row reads.1)

-- what was read has no fault
no_record_fault : (ks : List Kind) (place : ℕ) (fields : List (List ℕ)) (row : Row) (e : BatchError) → e ≢ batch.NoMemory
    → ReadsRow ks fields row → RecordFault ks place fields e → ⊥
no_record_fault ks place fields row batch.NoMemory p reads x = p refl
no_record_fault ks place fields row batch.BadBatchHead p reads x = x
no_record_fault ks place fields row batch.TooManyRows p reads x = x
no_record_fault ks place fields row batch.RowCount p reads x = x
no_record_fault ks place fields row (batch.WrongWidth r) p reads x = x.1 (as_wide ks fields row reads)
no_record_fault ks place fields row (batch.BadField r c) p reads x = let v = value_at ks fields row c reads x.2.0 in x.2.1 v.0 v.1

no_first_fault : (ks : List Kind) (records : List (List (List ℕ))) (rows : List Row) (e : BatchError) → e ≢ batch.NoMemory
    → ReadsRows ks records rows → FirstFault ks records e → ⊥
no_first_fault ks records rows e p reads x =
    let r = row_at ks records rows x.place reads x.within in
    no_record_fault ks x.place (slice_index_or records x.place []) r.0 e p r.1 x.fault

over : (told : ℕ) → MAX_ROWS < told → told ≤ MAX_ROWS → ⊥
over told more few = omega arith

pub no_fault : (ks : List Kind) (origin number : List ℕ) (told : ℕ) (records : List Record) (f : Fed) (e : BatchError)
    → IsBatch ks origin number told records f → e ≢ batch.NoMemory
    → BuildFault ks origin number told records e → ⊥
no_fault ks origin number told records f batch.NoMemory is p x = p refl
no_fault ks origin number told records f batch.BadBatchHead is p x =
    x (record { origin_value = f.origin; number_value = f.number; reads_origin = is.origin_is; reads_number = is.number_is })
no_fault ks origin number told records f batch.TooManyRows is p x = over told x.1 is.few
no_fault ks origin number told records f batch.RowCount is p x = x.2 is.whole
no_fault ks origin number told records f (batch.WrongWidth r) is p x = no_first_fault ks records f.rows (batch.WrongWidth r) p is.rows_are
    x.3
no_fault ks origin number told records f (batch.BadField r c) is p x = no_first_fault ks records f.rows (batch.BadField r c) p is.rows_are
    x.3

-- ---- one fault

-- a column before the leftmost bad one was read
not_before : (ks : List Kind) (fields : List (List ℕ)) (c k : ℕ) → IsLeftmostBad ks fields c → IsLeftmostBad ks fields k → c < k → ⊥
not_before ks fields c k x y low =
    let within : c < length (take k ks) = subst (λ n. c < n) (sym (length-take k ks)) (omega (arith, x.0)) in
    let v = value_at (take k ks) (take k fields) y.2 c y.3 within in
    x.1 v.0 (subst (λ f. Reads (slice_index_or ks c Bigint_kind) f v.0) (get_or-take k fields c [] low)
    (subst (λ kind. Reads kind (slice_index_or (take k fields) c []) v.0) (get_or-take k ks c Bigint_kind low) v.1))

one_column : (ks : List Kind) (fields : List (List ℕ)) (c k : ℕ) → IsLeftmostBad ks fields c → IsLeftmostBad ks fields k → c ≡ k
one_column ks fields c k x y = go (cases_order c k)
  where
    go : (c ≡ k) ⊎ ((c < k) ⊎ (k < c)) → c ≡ k
    go (inl e) = e
    go (inr (inl low)) = absurd (not_before ks fields c k x y low)
    go (inr (inr low)) = absurd (not_before ks fields k c y x low)

one_record_fault : (ks : List Kind) (place : ℕ) (fields : List (List ℕ)) (d e : BatchError) → d ≢ batch.NoMemory → e ≢ batch.NoMemory
    → RecordFault ks place fields d → RecordFault ks place fields e → d ≡ e
one_record_fault ks place fields batch.NoMemory e p q x y = absurd (p refl)
one_record_fault ks place fields batch.BadBatchHead e p q x y = absurd x
one_record_fault ks place fields batch.TooManyRows e p q x y = absurd x
one_record_fault ks place fields batch.RowCount e p q x y = absurd x
one_record_fault ks place fields (batch.WrongWidth r) batch.NoMemory p q x y = absurd (q refl)
one_record_fault ks place fields (batch.WrongWidth r) batch.BadBatchHead p q x y = absurd y
one_record_fault ks place fields (batch.WrongWidth r) batch.TooManyRows p q x y = absurd y
one_record_fault ks place fields (batch.WrongWidth r) batch.RowCount p q x y = absurd y
one_record_fault ks place fields (batch.WrongWidth r) (batch.WrongWidth s) p q x y = ap batch.WrongWidth (x.0 ∙ sym y.0)
one_record_fault ks place fields (batch.WrongWidth r) (batch.BadField s k) p q x y = absurd (x.1 y.1)
one_record_fault ks place fields (batch.BadField r c) batch.NoMemory p q x y = absurd (q refl)
one_record_fault ks place fields (batch.BadField r c) batch.BadBatchHead p q x y = absurd y
one_record_fault ks place fields (batch.BadField r c) batch.TooManyRows p q x y = absurd y
one_record_fault ks place fields (batch.BadField r c) batch.RowCount p q x y = absurd y
one_record_fault ks place fields (batch.BadField r c) (batch.WrongWidth s) p q x y = absurd (y.1 x.1)
one_record_fault ks place fields (batch.BadField r c) (batch.BadField s k) p q x y =
    let row : r ≡ s = x.0 ∙ sym y.0 in
    let column : c ≡ k = one_column ks fields c k x.2 y.2 in
    λ i. batch.BadField (row i) (column i)

-- a record before the first that has a fault was read
not_earlier : (ks : List Kind) (records : List (List (List ℕ))) (d e : BatchError) → d ≢ batch.NoMemory
    → (x : FirstFault ks records d) (y : FirstFault ks records e) → x.place < y.place → ⊥
not_earlier ks records d e p x y low =
    let within : x.place < length (take y.place records) = subst (λ n. x.place < n) (sym (length-take y.place records))
    (omega (arith, x.within)) in
    let r = row_at ks (take y.place records) y.before.0 x.place y.before.1 within in
    no_record_fault ks x.place (slice_index_or records x.place []) r.0 d p
    (subst (λ f. ReadsRow ks f r.0) (get_or-take y.place records x.place [] low) r.1) x.fault

one_first_fault : (ks : List Kind) (records : List (List (List ℕ))) (d e : BatchError) → d ≢ batch.NoMemory → e ≢ batch.NoMemory
    → FirstFault ks records d → FirstFault ks records e → d ≡ e
one_first_fault ks records d e p q x y = go (cases_order x.place y.place)
  where
    go : (x.place ≡ y.place) ⊎ ((x.place < y.place) ⊎ (y.place < x.place)) → d ≡ e
    go (inl same) = one_record_fault ks y.place (slice_index_or records y.place []) d e p q
        (subst (λ n. RecordFault ks n (slice_index_or records n []) d) same x.fault) y.fault
    go (inr (inl low)) = absurd (not_earlier ks records d e p x y low)
    go (inr (inr low)) = absurd (not_earlier ks records e d q y x low)

pub one_build_fault : (ks : List Kind) (origin number : List ℕ) (told : ℕ) (records : List (List (List ℕ))) (d e : BatchError)
    → d ≢ batch.NoMemory → e ≢ batch.NoMemory
    → BuildFault ks origin number told records d → BuildFault ks origin number told records e → d ≡ e
one_build_fault ks origin number told records batch.NoMemory e p q x y = absurd (p refl)
one_build_fault ks origin number told records batch.BadBatchHead batch.NoMemory p q x y = absurd (q refl)
one_build_fault ks origin number told records batch.BadBatchHead batch.BadBatchHead p q x y = refl
one_build_fault ks origin number told records batch.BadBatchHead batch.TooManyRows p q x y = absurd (x y.0)
one_build_fault ks origin number told records batch.BadBatchHead batch.RowCount p q x y = absurd (x y.0)
one_build_fault ks origin number told records batch.BadBatchHead (batch.WrongWidth s) p q x y = absurd (x y.0)
one_build_fault ks origin number told records batch.BadBatchHead (batch.BadField s k) p q x y = absurd (x y.0)
one_build_fault ks origin number told records batch.TooManyRows batch.NoMemory p q x y = absurd (q refl)
one_build_fault ks origin number told records batch.TooManyRows batch.BadBatchHead p q x y = absurd (y x.0)
one_build_fault ks origin number told records batch.TooManyRows batch.TooManyRows p q x y = refl
one_build_fault ks origin number told records batch.TooManyRows batch.RowCount p q x y = absurd (over told x.1 y.1)
one_build_fault ks origin number told records batch.TooManyRows (batch.WrongWidth s) p q x y = absurd (over told x.1 y.1)
one_build_fault ks origin number told records batch.TooManyRows (batch.BadField s k) p q x y = absurd (over told x.1 y.1)
one_build_fault ks origin number told records batch.RowCount batch.NoMemory p q x y = absurd (q refl)
one_build_fault ks origin number told records batch.RowCount batch.BadBatchHead p q x y = absurd (y x.0)
one_build_fault ks origin number told records batch.RowCount batch.TooManyRows p q x y = absurd (over told y.1 x.1)
one_build_fault ks origin number told records batch.RowCount batch.RowCount p q x y = refl
one_build_fault ks origin number told records batch.RowCount (batch.WrongWidth s) p q x y = absurd (x.2 y.2)
one_build_fault ks origin number told records batch.RowCount (batch.BadField s k) p q x y = absurd (x.2 y.2)
one_build_fault ks origin number told records (batch.WrongWidth r) batch.NoMemory p q x y = absurd (q refl)
one_build_fault ks origin number told records (batch.WrongWidth r) batch.BadBatchHead p q x y = absurd (y x.0)
one_build_fault ks origin number told records (batch.WrongWidth r) batch.TooManyRows p q x y = absurd (over told y.1 x.1)
one_build_fault ks origin number told records (batch.WrongWidth r) batch.RowCount p q x y = absurd (y.2 x.2)
one_build_fault ks origin number told records (batch.WrongWidth r) (batch.WrongWidth s) p q x y = one_first_fault ks records
    (batch.WrongWidth r) (batch.WrongWidth s) p q x.3 y.3
one_build_fault ks origin number told records (batch.WrongWidth r) (batch.BadField s k) p q x y = one_first_fault ks records
    (batch.WrongWidth r) (batch.BadField s k) p q x.3 y.3
one_build_fault ks origin number told records (batch.BadField r c) batch.NoMemory p q x y = absurd (q refl)
one_build_fault ks origin number told records (batch.BadField r c) batch.BadBatchHead p q x y = absurd (y x.0)
one_build_fault ks origin number told records (batch.BadField r c) batch.TooManyRows p q x y = absurd (over told y.1 x.1)
one_build_fault ks origin number told records (batch.BadField r c) batch.RowCount p q x y = absurd (y.2 x.2)
one_build_fault ks origin number told records (batch.BadField r c) (batch.WrongWidth s) p q x y = one_first_fault ks records
    (batch.BadField r c) (batch.WrongWidth s) p q x.3 y.3
one_build_fault ks origin number told records (batch.BadField r c) (batch.BadField s k) p q x y = one_first_fault ks records
    (batch.BadField r c) (batch.BadField s k) p q x.3 y.3
