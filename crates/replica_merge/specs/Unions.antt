-- The groups of several origins in one run. All of this is our own.
use Rattle.std.specs.Prelude.{◌≡◌, ℕ, All, List, [], ◌∷◌, length, map}
use Rattle.std.specs.Borrow.{Bor}
use Rattle.grouping_model.specs.Datum.{Row, row_cmp}
use Rattle.grouping_model.specs.Rising.{distinct}
use Rattle.grouping_model.specs.Query.{Query}
use Rattle.grouping_model.specs.Aggregates.{Outcome}
use Rattle.grouping_model.specs.Answer.{answer, answer_of}
use Rattle.grouping_model.specs.Grouping.{Group, part}
use Rattle.grouping_model.specs.World.{World, IsWorld}
use Rattle.packed_rows.specs.Columns.{kinds}
use Rattle.packed_rows.specs.ConcatenatedRows.{concatenated}
use Rattle.packed_rows.specs.Packing.{packing}
use Rattle.group_runs.specs.Runs.{Entry, packed_keys}
use Rattle.group_runs.specs.Standing.{AreGroups, IsRun}
use Rattle.hash_agg.specs.Inputs.{Brought, all_rows, AllBring, AreInputsOf}
use Rattle.origin_prefix.specs.Parts.{Part}
use Rattle.having_filter.specs.Meaning.{meaning}
use Rattle.replica_merge.specs.Replicas.{Held, Fits, told, counted, counted_part}

-- what a list of parts brings to an answer
abbrev pub brought_by : List (Bor Part) → List Brought
brought_by parts = map (λ (p : Bor Part). counted p.now) parts

-- a run has the groups of all of these inputs: it is a run of the query, and where all inputs stand for lists of rows, it has the groups of
-- all of these rows. In any case it has the keys that the inputs bring, each once and in increasing order. Of the states of inputs that
-- stand for no rows no more is said
pub record IsUnion (query : Query) (inputs : List Brought) (run : List Entry) : Type 0 where
  pub part : (lists : List (List Row)) → AreInputsOf query inputs lists
      → AreGroups query (all_rows inputs) run (part query (concatenated lists))
  pub keys : (lists : List (List Row)) → AllBring query inputs lists → packed_keys run ≡ map packing (distinct row_cmp (concatenated lists))
  pub is_run : IsRun query (all_rows inputs) run

-- a run is that of the only part
pub record IsRunAlone (parts : List (Bor Part)) (run : List Entry) : Type 0 where
  pub only : Bor Part
  pub alone : parts ≡ only ∷ []
  pub run_is : run ≡ only.now.run

-- rows are those of the groups of a run that has the groups of all parts of what is held, each key once. The only part's run is used as it
-- is
pub record IsShown (held : Held) (rows : List (List Outcome)) : Type 0 where
  pub run : List Entry
  pub union : IsUnion (meaning held.query) (map counted_part held.parts) run
  pub alone : (only : ℕ × Part) → held.parts ≡ only ∷ [] → run ≡ only.1.run
  pub shown : (groups : List Group) → AreGroups (meaning held.query) (all_rows (map counted_part held.parts)) run groups
      → rows ≡ answer_of (meaning held.query) groups

-- rows are the answer of what is held: each has the query's items, and they are those of one run of the groups of all parts. For each world
-- that what is held fits, they are the query's answer over the unbroken prefixes
pub record IsAnswerOf (held : Held) (rows : List (List Outcome)) : Type 0 where
  pub width : All (λ (row : List Outcome). length row ≡ length (meaning held.query).items) rows
  pub shown : IsShown held rows
  pub of_world : (world : World) → IsWorld (kinds held.query.columns) world → Fits world held
      → rows ≡ answer (meaning held.query) world (told held.parts)
