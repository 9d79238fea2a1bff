-- The keys of rows.
use Rattle.std.specs.Prelude.{ℕ, zero, suc, ◌<◌, List, [], ◌∷◌, length, map, slice_index_or}
use Rattle.std.proofs.Common.{arith}
use Rattle.std.specs.List.{AllByRecursion}
use Rattle.grouping_model.specs.Datum.{Row, Kind, Bigint_kind, HasKind, HasKinds, at_place}
use Rattle.grouping_model.specs.Query.{Query}
use Rattle.grouping_model.specs.Grouping.{key_of}
use Rattle.grouping_model.specs.Parts.{key_kinds}

kind_at : (kinds : List Kind) (row : Row) (place : ℕ) → HasKinds kinds row → place < length kinds
    → HasKind (slice_index_or kinds place Bigint_kind) (at_place row place)
kind_at [] row place has low = absurd (omega arith)
kind_at (kind ∷ kinds) [] place has low = absurd has
kind_at (kind ∷ kinds) (value ∷ row) zero (first, has) low = first
kind_at (kind ∷ kinds) (value ∷ row) (suc place) (first, has) low = kind_at kinds row place has (omega arith)

-- a key has the kinds of its columns
pub key_has : (q : Query) (row : Row) → AllByRecursion (λ place. place < length q.kinds) q.keys → HasKinds q.kinds row
    → HasKinds (key_kinds q) (key_of q row)
key_has q row within has = each q.keys within
  where
    each : (keys : List ℕ) → AllByRecursion (λ place. place < length q.kinds) keys
        → HasKinds (map (λ place. slice_index_or q.kinds place Bigint_kind) keys) (map (at_place row) keys)
    each [] within = tt
    each (place ∷ keys) (low, within) = (kind_at q.kinds row place has low, each keys within)
