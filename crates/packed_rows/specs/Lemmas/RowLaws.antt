-- Fields that are read one after another, and the bytes of their values.
use Rattle.std.specs.Prelude.{◌≡◌, ℕ, ◌+◌, ◌<◌, List, [], ◌∷◌, ◌++◌, length, take, slice_index_or}
use Rattle.std.proofs.Common.{sym, ◌∙◌, ap, subst, arith, append-nil}
use Rattle.grouping_model.specs.Datum.{Datum, Kind, Row}
use Rattle.packed_rows.specs.Field.{Reads, ReadsRow}
use Rattle.std.proofs.lemmas.List.Concat.{flat_map-append}
use Rattle.packed_rows.specs.Packing.{value_packing, packing}
use Rattle.std.proofs.lemmas.List.{take_more, take_all}

-- the first fields stand for values, and these are the values' bytes
abbrev pub PackedSoFar : List Kind → List (List ℕ) → ℕ → List ℕ → Type 0
PackedSoFar kinds fields i bytes = (row : Row) × ReadsRow (take i kinds) (take i fields) row × (bytes ≡ packing row)

reads_push : (kinds : List Kind) (fields : List (List ℕ)) (row : Row) (kind : Kind) (field : List ℕ) (value : Datum)
    → ReadsRow kinds fields row → Reads kind field value → ReadsRow (kinds ++ kind ∷ []) (fields ++ field ∷ []) (row ++ value ∷ [])
reads_push [] [] [] kind field value p q = (q, tt)
reads_push (k ∷ kinds) (f ∷ fields) (v ∷ row) kind field value p q = (p.0, reads_push kinds fields row kind field value p.1 q)
reads_push kinds fields row kind field value p q = absurd p

pub packed_more : (kinds : List Kind) (fields : List (List ℕ)) (i : ℕ) (bytes : List ℕ) (kind : Kind) (field : List ℕ) (value : Datum)
    → i < length kinds → i < length fields → Reads (slice_index_or kinds i kind) (slice_index_or fields i field) value
    → PackedSoFar kinds fields i bytes → PackedSoFar kinds fields (i + 1) (bytes ++ value_packing value)
packed_more kinds fields i bytes kind field value h h' r s =
    let pushed = reads_push (take i kinds) (take i fields) s.0 (slice_index_or kinds i kind) (slice_index_or fields i field) value s.1 r
    in (
      s.0 ++ value ∷ [],
      rw (take_more kinds i kind h, take_more fields i field h') pushed,
      ap (λ (w : List ℕ). w ++ value_packing value) s.2
          ∙ ap (λ (w : List ℕ). packing s.0 ++ w) (sym (append-nil (value_packing value)))
          ∙ sym (flat_map-append value_packing s.0 (value ∷ [])),
    )

pub packed_all : (kinds : List Kind) (fields : List (List ℕ)) (bytes : List ℕ) → length fields ≡ length kinds
    → PackedSoFar kinds fields (length kinds) bytes → (row : Row) × ReadsRow kinds fields row × (bytes ≡ packing row)
packed_all kinds fields bytes e s = (
  s.0,
  subst (λ (w : List Kind). ReadsRow w fields s.0) (take_all (length kinds) kinds (omega arith))
      (subst (λ (w : List (List ℕ)). ReadsRow (take (length kinds) kinds) w s.0) (ap (λ n. take n fields) (sym e)
      ∙ take_all (length fields) fields (omega arith)) s.1),
  s.2,
)
