-- What a pass adds to its groups and partitions, and what it leaves of its disk. All of this is our own.
use Rattle.std.specs.Prelude.{◌≡◌, ◌≢◌, ℕ, ◌+◌, ◌≤◌, ◌<◌, ◌&&◌, max, Bool, true, false, List, [], ◌∷◌, ◌++◌, length, IsTrue, IfErr, OnOk}
use Rattle.std.specs.Prelude.{Result, Ok, Some, zero, suc}
use Rattle.std.specs.List.Sorted.{IsPermutation}
use Rattle.aggregation_cost.specs.Cost.{Cost, cost}
use Rattle.aggregation_cost.specs.Passes.{is_empty}
use Rattle.aggregation_cost.specs.Space.{Setting, need, fits}
use Rattle.grouping_model.specs.Condition.{is_met}
use Rattle.grouping_model.specs.Datum.{Row, HasKinds}
use Rattle.grouping_model.specs.Query.{Query}
use Rattle.grouping_model.specs.Grouping.{column_of, key_of}
use Rattle.packed_rows.specs.Packing.{packing}
use Rattle.spill_tapes.specs.Records.{Record}
use Rattle.tape_disks.specs.Calls.{failed}
use Rattle.tape_disks.specs.Disk.{DiskFrame}
use Rattle.tape_disks.specs.declared.disk.TapeDisk.{Ghosts}
use Rattle.spill_partitions.specs.Errors.{spill_faults}
use Rattle.spill_partitions.specs.Partitions.{PendingPartition, partitions_of, left_by}
use Rattle.spill_partitions.specs.Standing.{HasPartitions, KeepsRest, PartitionsState, ReadsRecord, spilled_number, ahead_number}
use Rattle.spill_partitions.specs.Standing.{waiting_number, pages_of, written_pages}
use Rattle.spill_partitions.specs.declared.error.SpillError.{SpillError}
use Rattle.spill_partitions.specs.declared.error.SpillError.TheVariants.{TapeDamaged}
use Rattle.having_filter.specs.Meaning.{meaning}
use Rattle.group_runs.specs.Runs.{Entry, Rises, packed_keys}
use Rattle.hash_agg.specs.Inputs.{Brought, Packed, Counted, Given, AllGive}
use Rattle.hash_agg.specs.Passes.{Piece, ArePieces, AreSafe, IsPlan, IsSameTable, HasPlace, CountUpTo, Stands, AreRows, AreOfRun, Reads}
use Rattle.hash_agg.specs.Passes.{CanRead, ReadsPartition, CanReadPartition, Brings, Proceeds, WritesPages, entries_of, total}
use Rattle.hash_agg.specs.Passes.{standing, setting_of}
use Rattle.hash_agg.specs.Passes.{records_of, all_pieces, brought_by}
use Rattle.hash_agg.specs.Waiting.{Waits, Costs, AddsUp, pass_cost}
use Rattle.hash_agg.specs.declared.plan.Plan.{Plan}
use Rattle.hash_agg.specs.declared.pass.Pass.{Pass}
use Rattle.hash_agg.specs.declared.work.Work.{Work}

-- what a pass reads: packed rows; groups; or a record on a tape, by its hash, its tag and its bytes
pub data Source : Type 0 where
  Packed_rows : List (List ℕ) → Source
  Entries : List Entry → Source
  On_tape : ℕ → ℕ → List ℕ → Source

abbrev pub source_of : Brought → Source
source_of (Packed packed) = Packed_rows packed
source_of (Counted run most) = Entries run

-- the pieces that it stands for
abbrev pub Are : Query → (List ℕ → ℕ) → Source → List Piece → Type 0
Are query hash (Packed_rows packed) more = AreRows query packed more
Are query hash (Entries run) more = (most : ℕ) × AreOfRun query most run more
Are query hash (On_tape hashed tag bytes) more = ArePieces query hash (record { hash = hashed; tag = tag; bytes = bytes } ∷ []) more

-- ---- a pass

abbrev pub query_of : {H : Type 0} → Pass H → Query
query_of pass = meaning pass.plan.query.now

-- its limit, the length of its states, and its hash function, as the cost has them
abbrev pub setting_in : {H : Type 0} → (H → List ℕ → ℕ) → Pass H → Setting
setting_in hash_of pass = setting_of pass.plan (hash_of pass.groups.hash)

-- it can go on: its table has states as long as those that a group begins with, and never held more than the limit; and its tapes live
pub record IsReady {H : Type 0} (pass : Pass H) : Type 0 where
  pub plan : IsPlan pass.plan
  pub width : pass.groups.table.width ≡ length pass.plan.first.items
  pub held : pass.groups.most_held ≤ pass.plan.limit
  pub alive : pass.spill.tapes.is_dead ≡ false

-- it has no group, and has spilled nothing
pub record IsFresh {H : Type 0} (pass : Pass H) : Type 0 where
  pub empty : entries_of pass.groups ≡ []
  pub partitions : pass.spill.partitions ≡ []

-- it is over, and the next one may begin
pub record IsOver {H : Type 0} (pass : Pass H) : Type 0 where
  pub ready : IsReady pass
  pub fresh : IsFresh pass
  pub reading : pass.spill.reading ≡ []

-- it is the first: it stands as one that is over, and no partition is left to read
pub record IsFirst {H D : Type 0} (g : Ghosts D) (pass : Pass H) (disk : D) : Type 0 where
  pub over : IsOver pass
  pub none : HasPartitions (g.last disk) pass.spill [] [] []
  pub pending : pass.spill.pending ≡ []
  pub level : pass.spill.level ≡ 0

-- its plan, its table but for the groups, and the partitions to which it doesn't spill are the same
pub record KeepsPass {H : Type 0} (old new : Pass H) : Type 0 where
  pub plan : new.plan ≡ old.plan
  pub table : IsSameTable old.plan.limit old.groups new.groups
  pub spill : KeepsRest old.spill new.spill

-- whether its table takes a key that isn't there
abbrev pub enters : {H : Type 0} → (List ℕ → ℕ) → Pass H → List ℕ → Bool
enters hash pass key = is_empty pass.spill.partitions && fits (setting_of pass.plan hash) (packed_keys (entries_of pass.groups) ++ key ∷ [])

-- it does, and at most this many bytes of blocks are held meanwhile
pub record HasRoom {H : Type 0} (pass : Pass H) (key : List ℕ) (bytes : ℕ) : Type 0 where
  pub none : pass.spill.partitions ≡ []
  pub few : HasPlace pass.groups
  pub within : bytes ≤ pass.plan.limit
  pub needed : bytes ≡ need pass.groups.table.width (packed_keys (entries_of pass.groups) ++ key ∷ [])

-- ---- what it reads

-- a row for which WHERE is true, its packing, and its packed key
pub record IsSelected (query : Query) (packed key : List ℕ) (row : Row) : Type 0 where
  pub has : HasKinds query.kinds row
  pub is : packed ≡ packing row
  pub met : is_met (column_of row) query.condition ≡ true
  pub named : key ≡ packing (key_of query row)

-- what is read was added, by a plan and a hash function. The groups and partitions are those after it, with at most as many more as it
-- brings, and over any disk they are the query's. The pages that became full were written
pub record AddedBy {H D : Type 0} (plan : Plan) (hash : List ℕ → ℕ) (g : Ghosts D) (what : Source) (old : Pass H) (before : D)
    (new : Pass H) (after : D) : Type 0 where
  pub reads : Reads plan hash (Are (meaning plan.query.now) hash what) (standing old.groups old.spill (g.last before))
      (standing new.groups new.spill (g.last after))
  pub brings : Brings (meaning plan.query.now) (Are (meaning plan.query.now) hash what) (entries_of old.groups) old.spill
      (entries_of new.groups) new.spill
  pub safe : AreSafe (meaning plan.query.now) plan.most (entries_of old.groups)
      → AreSafe (meaning plan.query.now) plan.most (entries_of new.groups)
  pub pages : WritesPages (g.writes before) old.spill (g.writes after) new.spill
  pub ready : IsReady new
  pub kept : KeepsPass old new

-- it was not; if it can be read, the reason is not a damaged tape
pub record RefusedBy {H D : Type 0} (plan : Plan) (hash : List ℕ → ℕ) (g : Ghosts D) (what : Source) (old : Pass H) (before : D)
    (error : SpillError) (new : Pass H) : Type 0 where
  pub undamaged : CanRead plan hash (Are (meaning plan.query.now) hash what) (standing old.groups old.spill (g.last before))
      → error ≢ TapeDamaged
  pub kept : KeepsPass old new

-- the same by the pass's own plan and hash function
abbrev pub Added : {H D : Type 0} → (H → List ℕ → ℕ) → Ghosts D → Source → Pass H → D → Pass H → D → Type 0
Added hash_of g what old before new after = AddedBy old.plan (hash_of old.groups.hash) g what old before new after

abbrev pub Refused : {H D : Type 0} → (H → List ℕ → ℕ) → Ghosts D → Source → Pass H → D → SpillError → Pass H → Type 0
Refused hash_of g what old before error new = RefusedBy old.plan (hash_of old.groups.hash) g what old before error new

-- one row, group or record was added: it made one group at most, or was spilled, if it was not the first
pub record AddedOne {H D : Type 0} (hash_of : H → List ℕ → ℕ) (g : Ghosts D) (what : Source) (old : Pass H) (before : D) (new : Pass H)
    (after : D) : Type 0 where
  pub added : Added hash_of g what old before new after
  pub proceeds : Proceeds (entries_of old.groups) old.spill (entries_of new.groups) new.spill

-- a record is that of a row for which WHERE is true, or of a group of the query. Its hash is that of its key
abbrev pub IsGenuine : {H : Type 0} → (H → List ℕ → ℕ) → Pass H → Source → Type 0
IsGenuine hash_of pass what = (piece : Piece) × Are (query_of pass) (hash_of pass.groups.hash) what (piece ∷ [])

-- a record was added, and is one
pub record AddedGenuine {H D : Type 0} (hash_of : H → List ℕ → ℕ) (g : Ghosts D) (what : Source) (old : Pass H) (before : D) (new : Pass H)
    (after : D) : Type 0 where
  pub added : AddedOne hash_of g what old before new after
  pub genuine : IsGenuine hash_of old what

-- what is read was added, or is refused; and what that leaves of the disk
pub record Adds {H D T : Type 0} (Done : (H → List ℕ → ℕ) → Ghosts D → Source → Pass H → D → Pass H → D → Type 0) (hash_of : H → List ℕ
    → ℕ) (g : Ghosts D) (what : Source) (old : Pass H) (before : D) (result : Result T SpillError) (new : Pass H) (after : D) : Type 0 where
  pub added : OnOk result (Done hash_of g what old before new after)
  pub refused : IfErr result (λ error. Refused hash_of g what old before error new)
  pub disk : DiskFrame g (failed spill_faults result) before after

-- ---- a partition that it reads

-- what a pass over a partition keeps: its plan, its table but for the groups, and the partitions of later passes
pub record KeepsLater {H : Type 0} (old new : Pass H) : Type 0 where
  pub plan : new.plan ≡ old.plan
  pub table : IsSameTable old.plan.limit old.groups new.groups
  pub pending : new.spill.pending ≡ old.spill.pending
  pub level : new.spill.level ≡ old.spill.level

-- a record of the partition was read, is genuine, and was added
pub record ReadsAndAdds {H D : Type 0} (hash_of : H → List ℕ → ℕ) (g : Ghosts D) (old : Pass H) (before : D) (new : Pass H) (after : D) :
    Type 0 where
  pub hash : ℕ
  pub tag : ℕ
  pub bytes : List ℕ
  pub left : PartitionsState
  pub between : D
  pub read : ReadsRecord g old.spill before (Ok (Some (hash, tag))) left between bytes
  pub added : AddedGenuine hash_of g (On_tape hash tag bytes) (record old { spill = left }) between new after

-- this many were, one after the other
abbrev pub AddInTurn : {H D : Type 0} → (H → List ℕ → ℕ) → Ghosts D → ℕ → Pass H → D → Pass H → D → Type 0
AddInTurn hash_of g zero old before new after = (new ≡ old) × (after ≡ before)
AddInTurn {H = H} {D = D} hash_of g (suc n) old before new after =
    (mid : Pass H) × (between : D) × AddInTurn hash_of g n old before mid between × ReadsAndAdds hash_of g mid between new after

-- all that its partition has were: over any disk, none was skipped
pub record AddsEach {H D : Type 0} (hash_of : H → List ℕ → ℕ) (g : Ghosts D) (old : Pass H) (before : D) (new : Pass H) : Type 0 where
  pub last : Pass H
  pub disk : D
  pub each : AddInTurn hash_of g (ahead_number old.spill) old before last disk
  pub groups : new.groups ≡ last.groups
  pub spilled : new.spill.partitions ≡ last.spill.partitions

-- the records of its partition were added, of which fewer are spilled than there were
pub record AddedPartition {H D : Type 0} (hash_of : H → List ℕ → ℕ) (g : Ghosts D) (old : Pass H) (before : D) (new : Pass H) (after : D) :
    Type 0 where
  pub reads : IsTrue (g.honest before) → ReadsPartition old.plan (hash_of old.groups.hash) (standing old.groups old.spill (g.last before))
      (standing new.groups new.spill (g.last after))
  pub each : AddsEach hash_of g old before new
  pub safe : AreSafe (query_of old) old.plan.most (entries_of new.groups)
  pub few : total (entries_of new.groups) new.spill ≤ ahead_number old.spill
  pub fewer : 0 < ahead_number old.spill → spilled_number new.spill < ahead_number old.spill
  pub pages : WritesPages (g.writes before) old.spill (g.writes after) new.spill
  pub reading : new.spill.reading ≡ []
  pub ready : IsReady new
  pub kept : KeepsLater old new

pub record RefusedPartition {H D : Type 0} (hash_of : H → List ℕ → ℕ) (g : Ghosts D) (old : Pass H) (before : D) (error : SpillError)
    (new : Pass H) : Type 0 where
  pub undamaged : IsTrue (g.honest before) → CanReadPartition old.plan (hash_of old.groups.hash) (standing old.groups old.spill (g.last before))
      → error ≢ TapeDamaged
  pub kept : KeepsLater old new

-- ---- its end

-- its groups became a run, and what it spilled was left to later passes
pub record Finished {H D : Type 0} (g : Ghosts D) (old : Pass H) (before : D) (run : List Entry) (new : Pass H) (after : D) : Type 0 where
  pub moved : IsPermutation (entries_of old.groups) run
  pub rises : Rises run
  pub left : (spilled ahead : List Record) (pending : List PendingPartition) → HasPartitions (g.last before) old.spill spilled ahead pending
      → HasPartitions (g.last after) new.spill [] ahead (pending ++ left_by old.spill.level spilled)
  pub paged : (spilled ahead : List Record) (pending : List PendingPartition)
      → HasPartitions (g.last before) old.spill spilled ahead pending
      → g.writes after + written_pages old.spill ≡ g.writes before + pages_of (partitions_of old.spill.level spilled)
  pub waiting : waiting_number new.spill ≡ waiting_number old.spill + spilled_number old.spill
  pub reading : new.spill.reading ≡ old.spill.reading
  pub ready : IsReady new
  pub fresh : IsFresh new
  pub plan : new.plan ≡ old.plan
  pub hash : new.groups.hash ≡ old.groups.hash
  pub finds : new.groups.table.hash ≡ old.groups.table.hash

-- it was counted: the pass, what it spilled, and what its table held
pub record CountsPass {H D : Type 0} (g : Ghosts D) (pass : Pass H) (disk : D) (old new : Work) : Type 0 where
  pub counted : 1 ≤ new.passes
  pub held : new.most_held ≡ max old.most_held pass.groups.most_held
  pub adds :
      (spilled ahead : List Record) (pending : List PendingPartition) (pages : ℕ)
      → HasPartitions (g.last disk) pass.spill spilled ahead pending
      → AddsUp old (pass_cost pass.groups.table.width (entries_of pass.groups) (length spilled) pages) new

-- ---- all passes

-- passes were counted, and the blocks of none exceeded a limit
pub record CountsWithin (limit : ℕ) (old new : Work) : Type 0 where
  pub counted : 1 ≤ new.passes
  pub held : old.most_held ≤ limit → new.most_held ≤ limit

-- a run of groups of the query over any disk
pub record IsSafeRun (query : Query) (most : ℕ) (run : List Entry) : Type 0 where
  pub safe : AreSafe query most run
  pub rises : Rises run

-- an aggregation of pieces is under way. Each piece is in the groups of a run or in a partition that is left. The passes made so far, and
-- those over these partitions, cost what the cost model says of the pieces
pub record IsUnderway (query : Query) (setting : Setting) (pieces : List Piece) (run : List Entry) (Has : List PendingPartition
    → Type 0) (old new : Work) (writes written : ℕ) : Type 0 where
  pub pending : List PendingPartition
  pub has : Has pending
  pub waits : Waits query setting.hash pieces run pending
  pub made : Cost
  pub costs : Costs query setting pieces made pending
  pub adds : AddsUp old made new
  pub paged : written ≡ writes + made.pages

-- it is done
pub record IsDone (query : Query) (setting : Setting) (pieces : List Piece) (run : List Entry) (old new : Work) (writes written : ℕ) :
    Type 0 where
  pub stands : Stands query setting.hash pieces run []
  pub adds : AddsUp old (cost setting (records_of query setting.width pieces)) new
  pub paged : written ≡ writes + (cost setting (records_of query setting.width pieces)).pages

-- so it is between two passes, if what was begun was under way
abbrev pub Continues : {H D : Type 0} → (H → List ℕ → ℕ) → Ghosts D → Pass H → D → List Entry → Work → (List Piece → Work → ℕ → Type 0)
    → Type 0
Continues hash_of g pass disk run work Then =
    IsTrue (g.honest disk) → (pieces : List Piece) (start : Work) (writes : ℕ)
    → IsUnderway (query_of pass) (setting_in hash_of pass) pieces run (HasPartitions (g.last disk) pass.spill [] []) start work writes
    (g.writes disk)
    → CountUpTo (query_of pass) pass.plan.most pieces
    → Then pieces start writes

-- the first pass was made, over inputs
pub record MadeFirst {H D : Type 0} (hash_of : H → List ℕ → ℕ) (g : Ghosts D) (inputs : List Brought) (old : Pass H) (before : D)
    (work : Work) (run : List Entry) (new : Pass H) (after : D) (done : Work) : Type 0 where
  pub underway : (givens : List Given) → AllGive (query_of old) inputs givens
      → IsUnderway (query_of old) (setting_in hash_of old) (all_pieces inputs givens) run (HasPartitions (g.last after) new.spill [] [])
      work
      done (g.writes before) (g.writes after)
  pub few : (givens : List Given) → AllGive (query_of old) inputs givens → length run
      + waiting_number new.spill ≤ brought_by (query_of old) (all_pieces inputs givens)
  pub safe : IsSafeRun (query_of old) old.plan.most run
  pub over : IsOver new
  pub within : CountsWithin old.plan.limit work done
  pub plan : new.plan ≡ old.plan
  pub hash : new.groups.hash ≡ old.groups.hash
  pub finds : new.groups.table.hash ≡ old.groups.table.hash

-- the later ones were made, whose groups were united with those of the first
pub record MadeLater {H D : Type 0} (hash_of : H → List ℕ → ℕ) (g : Ghosts D) (old : Pass H) (before : D) (first : List Entry) (work : Work)
    (run : List Entry) (after : D) (done : Work) : Type 0 where
  pub whole : Continues hash_of g old before first work (λ pieces start writes. IsDone (query_of old) (setting_in hash_of old) pieces run
      start done writes (g.writes after))
  pub few : length run ≤ length first + waiting_number old.spill
  pub safe : IsSafeRun (query_of old) old.plan.most run
  pub within : CountsWithin old.plan.limit work done

-- all passes were made, over inputs: what is said of the first is said of these
pub record MadeAll {H D : Type 0} (hash_of : H → List ℕ → ℕ) (g : Ghosts D) (inputs : List Brought) (pass : Pass H) (before : D)
    (work : Work) (run : List Entry) (after : D) (done : Work) : Type 0 where
  pub whole :
      IsTrue (g.honest before) → (givens : List Given) → AllGive (query_of pass) inputs givens
      → CountUpTo (query_of pass) pass.plan.most (all_pieces inputs givens)
      → IsDone (query_of pass) (setting_in hash_of pass) (all_pieces inputs givens) run work done (g.writes before) (g.writes after)
  pub few : (givens : List Given) → AllGive (query_of pass) inputs givens
      → length run ≤ brought_by (query_of pass) (all_pieces inputs givens)
  pub safe : IsSafeRun (query_of pass) pass.plan.most run
  pub within : CountsWithin pass.plan.limit work done
