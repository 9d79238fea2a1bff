-- Rows of states: the states of some aggregates, one after the other.
use Rattle.std.specs.Prelude.{◌≡◌, ℕ, ◌≤◌, List, [], ◌∷◌, ◌++◌, map, take, drop, Option, Some, None}
use Rattle.std.specs.List.{flat_map}
use Rattle.grouping_model.specs.Aggregates.{Function, Partial, partial}
use Rattle.grouping_model.specs.Combining.{transition}
use Rattle.packed_rows.specs.View.{datum_of}
use Rattle.packed_rows.specs.declared.Value.{Value}
use Rattle.agg_protocol.specs.States as states
use Rattle.agg_protocol.specs.States.{IsState, rows_of, shape_of, bytes_of}
use Rattle.agg_protocol.specs.declared.kind.AggKind.{AggKind}
use Rattle.agg_protocol.specs.Kinds.{function_of, kind_shape, kind_width, row_width}

-- the bytes denote these partial results, one of each kind, that count at most this many rows each (own)
abbrev pub DenotesAll : ℕ → List AggKind → List ℕ → List Partial → Type 0
DenotesAll most [] bytes [] = bytes ≡ []
DenotesAll most (kind ∷ kinds) bytes (p ∷ ps) = states.Denotes most (kind_shape kind) (take (kind_width kind) bytes) p
    × DenotesAll most kinds (drop (kind_width kind) bytes) ps
DenotesAll most kinds bytes partials = ⊥

-- what is known before any row (own)
abbrev pub initial_partials : List AggKind → List Partial
initial_partials kinds = map (λ kind. partial (function_of kind) []) kinds

-- what is known after a row, whose value reaches the aggregate or not
-- (PostgreSQL 17, 4.2.7: only the rows for which FILTER is true are fed to the function)
abbrev pub partial_after : Function → Partial → Option Value → Partial
partial_after function p None = p
partial_after function p (Some value) = transition function p (datum_of value)

-- no partial result counts more rows (own)
abbrev pub AllWithin : ℕ → List Partial → Type 0
AllWithin most [] = Unit {0}
AllWithin most (p ∷ ps) = (rows_of p ≤ most) × AllWithin most ps

-- the part of the aggregate at a place (own)
abbrev pub part_at : List AggKind → List ℕ → ℕ → AggKind → List ℕ
part_at kinds row i kind = take (kind_width kind) (drop (row_width (take i kinds)) row)

-- the row with the part at a place written anew (own)
abbrev pub with_part : List AggKind → List ℕ → ℕ → AggKind → List ℕ → List ℕ
with_part kinds row i kind part = take (row_width (take i kinds)) row
    ++ (part ++ drop (kind_width kind) (drop (row_width (take i kinds)) row))

-- the states of partial results, one after the other (own)
abbrev pub state_bytes : List Partial → List ℕ
state_bytes partials = flat_map bytes_of partials

-- partial results of these functions, which count at most this many rows each (own)
abbrev pub ArePartials : ℕ → List Function → List Partial → Type 0
ArePartials most [] [] = Unit {0}
ArePartials most (f ∷ fs) (p ∷ ps) = IsState most (shape_of f) p × ArePartials most fs ps
ArePartials most fs partials = ⊥
