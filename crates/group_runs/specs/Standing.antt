-- Which groups some bytes stand for. All of this is our own.
use Rattle.std.specs.Prelude.{◌≡◌, ℕ, List, [], ◌∷◌, map, sum_by}
use Rattle.grouping_model.specs.Datum.{HasKinds}
use Rattle.grouping_model.specs.Aggregates.{Function, Partial}
use Rattle.grouping_model.specs.Query.{Query}
use Rattle.grouping_model.specs.Grouping.{Group}
use Rattle.grouping_model.specs.Parts.{functions, key_kinds}
use Rattle.packed_rows.specs.Packing.{packing}
use Rattle.agg_protocol.specs.States.{shape_of, width_of}
use Rattle.agg_protocol.specs.declared.kind.AggKind.{AggKind}
use Rattle.agg_protocol.specs.Kinds.{function_of}
use Rattle.agg_library.specs.StateRows.{ArePartials, DenotesAll, state_bytes}
use Rattle.group_runs.specs.Runs.{Entry, Rises}

-- the bytes denote these partial results, one of each of the functions, that count at most this many rows each
pub record AreStates (these : List Function) (most : ℕ) (bytes : List ℕ) (partials : List Partial) : Type 0 where
  pub kinds : List AggKind
  pub named : map function_of kinds ≡ these
  pub denote : DenotesAll most kinds bytes partials

-- an entry stands for a group of a query: it has the packing of its key and the states of its partial results
pub record StandsFor (query : Query) (most : ℕ) (entry : Entry) (group : Group) : Type 0 where
  pub key : entry.0 ≡ packing group.0
  pub of_kinds : HasKinds (key_kinds query) group.0
  pub states : AreStates (functions query) most entry.1 group.1

-- entry by entry, these stand for groups
abbrev pub AreGroups : Query → ℕ → List Entry → List Group → Type 0
AreGroups query most [] [] = Unit {0}
AreGroups query most (entry ∷ entries) (group ∷ groups) = StandsFor query most entry group × AreGroups query most entries groups
AreGroups query most entries groups = ⊥

-- the bytes of a group: its packed key, and its states
abbrev pub group_bytes : Group → Entry
group_bytes group = (packing group.0, state_bytes group.1)

-- groups, one after the other
abbrev pub run_bytes : List Group → List Entry
run_bytes groups = map group_bytes groups

-- a group that a query can have over at most this many rows
pub record IsGroupOf (query : Query) (most : ℕ) (group : Group) : Type 0 where
  pub key : HasKinds (key_kinds query) group.0
  pub partials : ArePartials most (functions query) group.1

-- a run of a query: packed keys in increasing order, and states of its aggregates that count at most this many rows each
pub record IsRun (query : Query) (most : ℕ) (run : List Entry) : Type 0 where
  pub groups : List Group
  pub are : AreGroups query most run groups
  pub rises : Rises run

-- how many bytes the states of a group have
abbrev pub states_width : Query → ℕ
states_width query = sum_by (λ function. width_of (shape_of function)) (functions query)
