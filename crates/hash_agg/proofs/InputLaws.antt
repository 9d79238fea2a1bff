-- What inputs give.
use Rattle.std.specs.Prelude.{◌≡◌, refl, ℕ, zero, suc, List, [], ◌∷◌, map, Some, slice_get}
use Rattle.std.proofs.Common.{sym, ◌∙◌, ap}
use Rattle.std.specs.List.{AllByRecursion}
use Rattle.packed_rows.specs.Packing.{IsPacking}
use Rattle.hash_agg.specs.Inputs.{IsInput, Packed}
use Rattle.hash_agg.proofs.Words.{Row, Kind, HasKinds, Query, packing, ArePackings}

-- the row at a place, and its packing
pub record RowAt (kinds : List Kind) (rows : List Row) (i : ℕ) (bytes : List ℕ) : Type 0 where
  pub row : Row
  pub at : slice_get rows i ≡ Some row
  pub has : HasKinds kinds row
  pub is : bytes ≡ packing row

row_got : (kinds : List Kind) (rows : List Row) (i : ℕ) (bytes : List ℕ) → AllByRecursion (HasKinds kinds) rows
    → slice_get (map packing rows) i ≡ Some bytes → RowAt kinds rows i bytes
row_got kinds [] i bytes has at = absurd cc
row_got kinds (row ∷ rows) zero bytes (first, has) at = let same : packing row
    ≡ bytes = cc in record { row = row; at = refl; has = first; is = sym same }
row_got kinds (row ∷ rows) (suc i) bytes (first, has) at =
    let found = row_got kinds rows i bytes has at in
    record { row = found.row; at = found.at; has = found.has; is = found.is }

pub flat_row_at : (kinds : List Kind) (packed : List (List ℕ)) (rows : List Row) (i : ℕ) (bytes : List ℕ) → ArePackings kinds packed rows
    → slice_get packed i ≡ Some bytes → RowAt kinds rows i bytes
flat_row_at kinds packed rows i bytes are at = row_got kinds rows i bytes are.of_kinds (ap (λ ps. slice_get ps i) (sym are.packings_are)
    ∙ at)

-- each of given rows is a packing
pub packing_at : (q : Query) (packed : List (List ℕ)) (i : ℕ) (bytes : List ℕ) → IsInput q (Packed packed)
    → slice_get packed i ≡ Some bytes → IsPacking q.kinds bytes
packing_at q packed i bytes (rows, are) at = let found = flat_row_at q.kinds packed rows i bytes are at in (found.row, found.has, found.is)
