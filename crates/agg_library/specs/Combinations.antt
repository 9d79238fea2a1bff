-- What combining rows of states asks and does. All of this is our own.
use Rattle.std.specs.Prelude.{ℕ, ◌≤◌, List}
use Rattle.grouping_model.specs.Aggregates.{Partial}
use Rattle.grouping_model.specs.Combining.{combine, combine_all}
use Rattle.agg_protocol.specs.Kinds.{function_of, functions_of, kind_shape}
use Rattle.agg_protocol.specs.States as states
use Rattle.agg_protocol.specs.States.{rows_of}
use Rattle.agg_protocol.specs.declared.kind.AggKind.{AggKind}
use Rattle.agg_library.specs.StateRows.{DenotesAll, AllWithin}

-- two rows of states can be combined: no state of both counts too many rows
abbrev pub CanCombine : (most : ℕ) → List AggKind → (first second : List ℕ) → Type 0
CanCombine most kinds first second = (ps qs : List Partial) × DenotesAll most kinds first ps × DenotesAll most kinds second qs
    × AllWithin most (combine_all (functions_of kinds) ps qs)

-- they were combined to this row
abbrev pub Combines : (most : ℕ) → List AggKind → (first second both : List ℕ) → Type 0
Combines most kinds first second both = (ps qs : List Partial) × DenotesAll most kinds first ps × DenotesAll most kinds second qs
    × DenotesAll most kinds both (combine_all (functions_of kinds) ps qs)

-- the same of one state
abbrev pub CanCombineOne : (most : ℕ) → AggKind → (first second : List ℕ) → Type 0
CanCombineOne most kind first second = (p q : Partial) × states.Denotes most (kind_shape kind) first p
    × states.Denotes most (kind_shape kind) second q × (rows_of (combine (function_of kind) p q) ≤ most)

abbrev pub CombinesOne : (most : ℕ) → AggKind → (first second both : List ℕ) → Type 0
CombinesOne most kind first second both = (p q : Partial) × states.Denotes most (kind_shape kind) first p
    × states.Denotes most (kind_shape kind) second q × states.Denotes most (kind_shape kind) both (combine (function_of kind) p q)
