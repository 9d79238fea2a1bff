-- The first records stand for rows: one record more, and all of them.
use Rattle.std.specs.Prelude.{◌≡◌, ℕ, ◌+◌, ◌<◌, List, [], ◌∷◌, ◌++◌, take, length, slice_index_or}
use Rattle.std.proofs.Common.{sym, ◌∙◌, ap, subst, arith}
use Rattle.std.proofs.lemmas.List.{map-append, take_more, take_all}
use Rattle.grouping_model.specs.Datum.{Kind, Row}
use Rattle.packed_rows.specs.Field.{ReadsRow}
use Rattle.packed_rows.specs.Packing.{packing}
use Rattle.batch_reader.specs.Rows.{ReadsRows, packings}

-- the first records stand for rows, and these are the rows' packings
abbrev pub RowsSoFar : List Kind → List (List (List ℕ)) → ℕ → List (List ℕ) → Type 0
RowsSoFar kinds records i bytes = (rows : List Row) × ReadsRows kinds (take i records) rows × (bytes ≡ packings rows)

reads_push : (kinds : List Kind) (records : List (List (List ℕ))) (rows : List Row) (fields : List (List ℕ)) (row : Row)
    → ReadsRows kinds records rows → ReadsRow kinds fields row → ReadsRows kinds (records ++ fields ∷ []) (rows ++ row ∷ [])
reads_push kinds [] [] fields row p q = (q, tt)
reads_push kinds (f ∷ records) (r ∷ rows) fields row p q = (p.0, reads_push kinds records rows fields row p.1 q)
reads_push kinds [] (r ∷ rows) fields row p q = absurd p
reads_push kinds (f ∷ records) [] fields row p q = absurd p

pub rows_more : (kinds : List Kind) (records : List (List (List ℕ))) (i : ℕ) (bytes : List (List ℕ)) (fields : List (List ℕ)) (row : Row)
    (packed : List ℕ) → i < length records → slice_index_or records i [] ≡ fields → ReadsRow kinds fields row → packed ≡ packing row
    → RowsSoFar kinds records i bytes → RowsSoFar kinds records (i + 1) (bytes ++ packed ∷ [])
rows_more kinds records i bytes fields row packed within at reads is s = (
  s.0 ++ row ∷ [],
  subst (λ w. ReadsRows kinds w (s.0 ++ row ∷ [])) (ap (λ f. take i records ++ f ∷ []) (sym at) ∙ sym (take_more records i [] within))
      (reads_push kinds (take i records) s.0 fields row s.1 reads),
  (λ j. s.2 j ++ is j ∷ []) ∙ sym (map-append packing s.0 (row ∷ [])),
)

pub rows_all : (kinds : List Kind) (records : List (List (List ℕ))) (i : ℕ) (bytes : List (List ℕ)) → length records ≡ i
    → RowsSoFar kinds records i bytes → (rows : List Row) × ReadsRows kinds records rows × (bytes ≡ packings rows)
rows_all kinds records i bytes e s = (s.0, subst (λ w. ReadsRows kinds w s.0) (take_all i records (omega (arith, e))) s.1, s.2)
