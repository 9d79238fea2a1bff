-- What is held of one origin, and how it changes when batches follow its prefix. All of this is our own.
use Rattle.std.specs.Prelude.{◌≡◌, ◌≢◌, ℕ, suc, ◌+◌, ◌*◌, ◌<◌, ◌≤◌, ◌==◌, ◌||◌, ◌&&◌, Bool, false, nat_le, nat_eq, List, [], ◌∷◌, map, take}
use Rattle.std.specs.Prelude.{drop, length, Option, Some, None, if◌then◌else◌, IsTrue, Result, IfOk, IfErr}
use Rattle.std.specs.List.{AllByRecursion}
use Rattle.std.specs.List.Sorted.{IsStrictlySortedBy}
use Rattle.std.specs.Map.{lookup}
use Rattle.std.specs.Option.{is_some}
use Rattle.std.specs.Ordering.{eq_by_cmp, nat_cmp}
use Rattle.std.specs.BTreeMap.{insert_entry}
use Rattle.grouping_model.specs.Datum.{Kind}
use Rattle.grouping_model.specs.Query.{Query}
use Rattle.grouping_model.specs.declared.limits.TheConstants.{LAST_NUMBER, MAX_ROWS}
use Rattle.grouping_model.specs.declared.delivered.Delivered.{Delivered}
use Rattle.grouping_model.specs.declared.delivered.Delivered.TheVariants as reply
use Rattle.packed_rows.specs.Columns.{kinds}
use Rattle.batch_reader.specs.Rows.{ArePackedRows}
use Rattle.batch_reader.specs.declared.batch.Batch as packed
use Rattle.query_checks.specs.Checks.{Checked}
use Rattle.origin_prefix.specs.declared.error.JoinError.{JoinError}
use Rattle.origin_prefix.specs.declared.error.RefusedBatch.{RefusedBatch}
use Rattle.origin_prefix.specs.declared.error.JoinError.TheVariants.{OriginDisagrees, Spill}
use Rattle.spill_partitions.specs.declared.error.SpillError.TheVariants.{NoMemory}
use Rattle.having_filter.specs.Meaning.{meaning}
use Rattle.group_runs.specs.Runs.{Entry}
use Rattle.group_runs.specs.Standing.{IsRun}
use Rattle.hash_agg.specs.Inputs.{Brought, Packed, Counted, Aggregated}

-- batches by their numbers, each with its packed rows
abbrev pub Batches : Type 0
Batches = List (ℕ × List (List ℕ))

-- what is held of an origin
pub record Part : Type 0 where
  -- its unbroken prefix: the batches 1 to this number are folded
  pub prefix : ℕ
  -- the groups of their rows
  pub run : List Entry
  -- the batches that came early, by ascending number
  pub early : Batches

-- nothing is held
abbrev pub empty : Part
empty = record { prefix = 0; run = []; early = [] }

-- the rows of a batch, if it is among these
abbrev pub rows_at : Batches → ℕ → Option (List (List ℕ))
rows_at batches number = lookup (eq_by_cmp nat_cmp number) batches

-- whether a part tells a number: it is 1 to the prefix, or early
abbrev pub tells : Part → ℕ → Bool
tells part number = (nat_le 1 number && nat_le number part.prefix) || is_some (rows_at part.early number)

-- whether nothing is held
abbrev pub is_nothing : Part → Bool
is_nothing part = nat_eq part.prefix 0 && nat_eq (length part.early) 0

-- a batch that may follow a prefix, now or later
pub record IsBehind (kinds : List Kind) (prefix : ℕ) (batch : ℕ × List (List ℕ)) : Type 0 where
  pub behind : prefix < batch.0
  pub within : batch.0 ≤ LAST_NUMBER
  pub rows : ArePackedRows kinds batch.1

-- a batch that may be early after a prefix: at least one number is between them
abbrev pub IsEarly : List Kind → ℕ → ℕ × List (List ℕ) → Type 0
IsEarly kinds prefix = IsBehind kinds (prefix + 1)

-- a part of an origin for a query: its groups count at most the rows that its prefix may have, and its early batches have a gap
-- before them
pub record IsPartOf (query : Checked) (part : Part) : Type 0 where
  pub within : part.prefix ≤ LAST_NUMBER
  pub run : IsRun (meaning query) (part.prefix * MAX_ROWS) part.run
  pub few : length part.run ≤ part.prefix * MAX_ROWS
  pub rising : IsStrictlySortedBy nat_cmp (map (λ (batch : ℕ × List (List ℕ)). batch.0) part.early)
  pub early : AllByRecursion (IsEarly (kinds query.columns) part.prefix) part.early

-- a prefix with its run, and batches behind it that may follow it
pub record IsOpen (query : Checked) (prefix : ℕ) (run : List Entry) (batches : Batches) : Type 0 where
  pub within : prefix ≤ LAST_NUMBER
  pub is_run : IsRun (meaning query) (prefix * MAX_ROWS) run
  pub few : length run ≤ prefix * MAX_ROWS
  pub rising : IsStrictlySortedBy nat_cmp (map (λ (batch : ℕ × List (List ℕ)). batch.0) batches)
  pub above : AllByRecursion (IsBehind (kinds query.columns) prefix) batches

-- how many of these batches follow a number without a gap
abbrev pub following : ℕ → Batches → ℕ
following number [] = 0
following number (batch ∷ batches) = if batch.0 == number + 1 then suc (following (number + 1) batches) else 0

-- their rows, batch after batch
abbrev pub rows_following : ℕ → Batches → List (List (List ℕ))
rows_following number batches = map (λ (batch : ℕ × List (List ℕ)). batch.1) (take (following number batches) batches)

-- batches are folded into a run that counts at most so many rows: it becomes the run of its groups and theirs, over a disk that may be
-- honest, and it stays the same if there are none
abbrev pub Folds : (honest : Bool) → Query → List Entry → ℕ → List (List (List ℕ)) → List Entry → Type 0
Folds honest query old rows [] new = new ≡ old
Folds honest query old rows (batch ∷ batches) new = Aggregated honest query (Counted old rows ∷ map Packed (batch ∷ batches)) new

-- the batches after a prefix: the early ones, and the one next to it if its rows are given
abbrev pub behind : ℕ → Batches → Option (List (List ℕ)) → Batches
behind prefix early None = early
behind prefix early (Some rows) = (prefix + 1, rows) ∷ early

-- the aggregations that folding takes, of the batches after a prefix that follow it without a gap: one of all of them, if there are any
abbrev pub aggregation_of : List (List (List ℕ)) → List (List Brought)
aggregation_of [] = []
aggregation_of (batch ∷ batches) = map Packed (batch ∷ batches) ∷ []

abbrev pub aggregations_behind : ℕ → Batches → List (List Brought)
aggregations_behind prefix batches = aggregation_of (rows_following prefix batches)

-- those behind the prefix of a part, with the rows of the batch next to it where they are given
abbrev pub aggregations_with : Part → Option (List (List ℕ)) → List (List Brought)
aggregations_with part next = aggregations_behind part.prefix (behind part.prefix part.early next)

-- those that a delivery takes: none, if the batch isn't next to the prefix
abbrev pub aggregations_on : Part → ℕ → List (List ℕ) → List (List Brought)
aggregations_on part number rows = if number == part.prefix + 1 then aggregations_with part (Some rows) else []

-- a prefix with its run takes those of the batches behind it that follow without a gap, over a disk that may be honest; the others
-- stay early
pub record Drains (honest : Bool) (query : Query) (prefix : ℕ) (run : List Entry) (batches : Batches) (new : Part) : Type 0 where
  pub upto : new.prefix ≡ prefix + following prefix batches
  pub folded : Folds honest query run (prefix * MAX_ROWS) (rows_following prefix batches) new.run
  pub early : new.early ≡ drop (following prefix batches) batches

-- a part may take the batches behind its prefix, with the one next to it where its rows are given; and it takes them
abbrev pub IsOpenWith : Checked → Part → Option (List (List ℕ)) → Type 0
IsOpenWith query part next = IsOpen query part.prefix part.run (behind part.prefix part.early next)

abbrev pub DrainsWith : (honest : Bool) → Query → Part → Option (List (List ℕ)) → Part → Type 0
DrainsWith honest query old next new = Drains honest query old.prefix old.run (behind old.prefix old.early next) new

-- a batch is known early, with other rows
pub record Disagrees (part : Part) (number : ℕ) (rows : List (List ℕ)) : Type 0 where
  pub kept : List (List ℕ)
  pub there : rows_at part.early number ≡ Some kept
  pub other : kept ≢ rows

-- what a refusal of a batch says of the part that doesn't take it: if it disagrees, it is early with other rows; anything else is a reason
-- only for a number that is not told. The disk is a reason only where the batch is next to the prefix, so that it would be folded
abbrev pub BatchTells : JoinError → Part → ℕ → List (List ℕ) → Type 0
BatchTells (OriginDisagrees told) part number rows = (told ≡ Some number) × Disagrees part number rows
BatchTells (Spill error) part number rows = (tells part number ≡ false) × (error ≢ NoMemory → number ≡ part.prefix + 1)

-- the part after a batch is delivered to it, and the reply
abbrev pub Delivers : (honest : Bool) → Query → Part → ℕ → List (List ℕ) → Part → Delivered → Type 0
Delivers honest query old number rows new reply.Known =
    IsTrue (tells old number) × ((kept : List (List ℕ)) → rows_at old.early number ≡ Some kept → kept ≡ rows) × (new ≡ old)
Delivers honest query old number rows new reply.Early =
    (tells old number ≡ false) × (number ≢ old.prefix + 1) × (new ≡ record old { early = insert_entry nat_cmp old.early number rows })
Delivers honest query old number rows new (reply.Folded upto) =
    (number ≡ old.prefix + 1) × (upto ≡ new.prefix) × DrainsWith honest query old (Some rows) new

-- a part refuses a batch: it is handed back, the part stays, and the reason
pub record Refuses (old : Part) (batch : packed.Batch) (new : Part) (refused : RefusedBatch) : Type 0 where
  pub back : refused.batch ≡ batch
  pub same : new ≡ old
  pub tells : BatchTells refused.why old batch.number batch.rows

-- a batch is delivered to a part of a query: the part takes it or refuses it, and in either case stays one of the query
pub record Delivery (honest : Bool) (query : Checked) (old : Part) (batch : packed.Batch) (new : Part)
    (result : Result Delivered RefusedBatch) : Type 0 where
  pub delivers : IfOk result (Delivers honest (meaning query) old batch.number batch.rows new)
  pub refuses : IfErr result (Refuses old batch new)
  pub part : IsPartOf query new
