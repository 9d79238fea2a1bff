-- What is aggregated. All of this is our own.
use Rattle.std.specs.Prelude.{◌≡◌, ℕ, ◌≤◌, max, Bool, IsTrue, List, [], ◌∷◌, map, length, sum_by}
use Rattle.std.specs.List.{AllByRecursion}
use Rattle.packed_rows.specs.ConcatenatedRows.{concatenated}
use Rattle.grouping_model.specs.Datum.{Row, Kind, HasKinds, row_cmp}
use Rattle.grouping_model.specs.Rising.{distinct}
use Rattle.grouping_model.specs.Query.{Query}
use Rattle.grouping_model.specs.Grouping.{Group, part, selected, key_of}
use Rattle.packed_rows.specs.Packing.{packing}
use Rattle.packed_rows.specs.View.{bytes_of}
use Rattle.grouping_model.specs.Parts.{key_kinds}
use Rattle.hash_agg.specs.declared.input.Input.{Input}
use Rattle.hash_agg.specs.declared.input.Input.TheVariants as code
use Rattle.hash_agg.specs.declared.input.Packings.{Packings}
use Rattle.hash_agg.specs.declared.input.Packings.TheVariants.{Apart, Concatenated}
use Rattle.hash_agg.specs.declared.work.Work.{Work}
use Rattle.group_runs.specs.Runs.{Entry, packed_keys}
use Rattle.group_runs.specs.Standing.{AreGroups, IsRun}

-- what an input brings: packed rows, or the groups of a run and how many rows its states count at most
pub data Brought : Type 0 where
  Packed : List (List ℕ) → Brought
  Counted : List Entry → ℕ → Brought

-- what an input of the code brings
abbrev pub brought : Input → Brought
brought (code.Rows packed) = Packed (bytes_of packed.now)
brought (code.Packed packed) = Packed packed.now
brought (code.Groups run rows) = Counted run.now rows

-- packed rows, as a list
abbrev pub packings_in : Packings → List (List ℕ)
packings_in (Apart packed) = bytes_of packed.now
packings_in (Concatenated packed) = packed.now

-- the packings of rows of columns of these kinds
pub record ArePackings (kinds : List Kind) (packed : List (List ℕ)) (rows : List Row) : Type 0 where
  pub of_kinds : AllByRecursion (HasKinds kinds) rows
  pub packings_are : packed ≡ map packing rows

-- how many rows an input has, or its states count at most
abbrev pub rows_in : Brought → ℕ
rows_in (Packed rows) = length rows
rows_in (Counted run most) = most

-- the same of all inputs together
abbrev pub all_rows : List Brought → ℕ
all_rows inputs = sum_by rows_in inputs

-- how many groups an input has, and all inputs together
abbrev pub groups_in : Brought → ℕ
groups_in (Packed rows) = 0
groups_in (Counted run most) = length run

abbrev pub all_groups : List Brought → ℕ
all_groups inputs = sum_by groups_in inputs

-- what may be aggregated: packed rows of the query's table, or a run of the query
abbrev pub IsInput : Query → Brought → Type 0
IsInput query (Packed packed) = (rows : List Row) × ArePackings query.kinds packed rows
IsInput query (Counted run most) = IsRun query most run

-- inputs of the query, which count this many rows at most
pub record AreInputs (query : Query) (most : ℕ) (inputs : List Brought) : Type 0 where
  pub are : AllByRecursion (IsInput query) inputs
  pub few : all_rows inputs ≤ most

-- an input stands for a list of rows: it has their packings, or the groups of their part
abbrev pub IsInputOf : Query → Brought → List Row → Type 0
IsInputOf query (Packed packed) rows = ArePackings query.kinds packed rows
IsInputOf query (Counted run most) rows = AreGroups query most run (part query rows)

-- two lists have the same length, and what is at a place of the one belongs to what is at that place of the other
abbrev pub OneByOne : {X Y : Type 0} → (X → Y → Type 0) → List X → List Y → Type 0
OneByOne Belongs [] [] = Unit {0}
OneByOne Belongs (x ∷ xs) (y ∷ ys) = Belongs x y × OneByOne Belongs xs ys
OneByOne Belongs xs ys = ⊥

-- input by input, these stand for lists of rows
abbrev pub AreInputsOf : Query → List Brought → List (List Row) → Type 0
AreInputsOf query [] [] = Unit {0}
AreInputsOf query (input ∷ inputs) (rows ∷ lists) = IsInputOf query input rows × AreInputsOf query inputs lists
AreInputsOf query inputs lists = ⊥

-- what an input gives: rows, or groups
pub data Given : Type 0 where
  Of_rows : List Row → Given
  Of_groups : List Group → Given

abbrev pub Gives : Query → Brought → Given → Type 0
Gives query (Packed packed) (Of_rows rows) = ArePackings query.kinds packed rows
Gives query (Counted run most) (Of_groups groups) = AreGroups query most run groups
Gives query input given = ⊥

abbrev pub AllGive : Query → List Brought → List Given → Type 0
AllGive query = OneByOne (Gives query)

-- the keys that an input brings: those of its selected rows, or of its groups
abbrev pub Brings : Query → Brought → List Row → Type 0
Brings query (Packed packed) keys = (rows : List Row) × ArePackings query.kinds packed rows
    × (keys ≡ map (key_of query) (selected query rows))
Brings query (Counted run most) keys = ArePackings (key_kinds query) (packed_keys run) keys

-- input by input, these bring keys
abbrev pub AllBring : Query → List Brought → List (List Row) → Type 0
AllBring query [] [] = Unit {0}
AllBring query (input ∷ inputs) (keys ∷ lists) = Brings query input keys × AllBring query inputs lists
AllBring query inputs lists = ⊥

-- what aggregation gives for inputs. If they stand for lists of rows, it is the groups of all these rows. In any case it has the keys that
-- the inputs bring, each once and in increasing order. Its states count at most as many rows as there are
pub record IsAggregate (query : Query) (inputs : List Brought) (run : List Entry) : Type 0 where
  pub part : (lists : List (List Row)) → AreInputsOf query inputs lists
      → AreGroups query (all_rows inputs) run (part query (concatenated lists))
  pub keys : (lists : List (List Row)) → AllBring query inputs lists → packed_keys run ≡ map packing (distinct row_cmp (concatenated lists))
  pub few : (lists : List (List Row)) → AllBring query inputs lists → length run ≤ length (concatenated lists)
  pub is_run : IsRun query (all_rows inputs) run

-- what it gives over a disk that may not be honest: a run of the query, of at most as many groups as keys are brought
pub record IsRunOver (query : Query) (inputs : List Brought) (run : List Entry) : Type 0 where
  pub is_run : IsRun query (all_rows inputs) run
  pub few : (lists : List (List Row)) → AllBring query inputs lists → length run ≤ length (concatenated lists)

-- the result for inputs: the aggregate over an honest disk, and a run of the query over any
pub record Aggregated (honest : Bool) (query : Query) (inputs : List Brought) (run : List Entry) : Type 0 where
  pub aggregate : IsTrue honest → IsAggregate query inputs run
  pub run_over : IsRunOver query inputs run

-- the same, and the work returned beside it: at least one pass over any disk, and over an honest one no more passes than groups
pub record Aggregation (honest : Bool) (query : Query) (inputs : List Brought) (done : List Entry × Work) : Type 0 where
  pub aggregated : Aggregated honest query inputs done.0
  pub passes : 1 ≤ done.1.passes
  pub few : IsTrue honest → done.1.passes ≤ max 1 (length done.0)
