-- Partitions on tapes. All of this is our own.
use Rattle.std.specs.Prelude.{◌≡◌, ◌≢◌, ℕ, ◌+◌, ◌/◌, ◌<◌, ◌≤◌, ◌⊎◌, ◌==◌, cond, true, false, not}
use Rattle.std.specs.Prelude.{List, [], ◌∷◌, ◌++◌, length, sum_by, filter}
use Rattle.std.specs.Prelude.{Option, Result, IsTrue, IfOk, IfErr, IfSome, IfNone, OnOk, OnErr}
use Rattle.spill_tapes.specs.Pages.{pages_for}
use Rattle.spill_tapes.specs.Records.{Record, tape_bytes}
use Rattle.spill_tapes.specs.Tape.{Gives}
use Rattle.tape_disks.specs.declared.limits.TheConstants.{PAGE}
use Rattle.spill_partitions.specs.declared.partitions.TheConstants.{PARTITIONS}
use Rattle.spill_tapes.specs.Tapes.{TapesState, IsTape, KeepsOthers, phase_of, is_open, is_written, is_read, written_len}
use Rattle.tape_disks.specs.declared.disk.TapeDisk.{Ghosts}
use Rattle.spill_tapes.specs.declared.tape_id.TapeId.{TapeId}
use Rattle.spill_tapes.specs.declared.limits.TheConstants.{MAX_RECORD_LEN}
use Rattle.spill_partitions.specs.declared.error.SpillError.{SpillError}
use Rattle.spill_partitions.specs.declared.error.SpillError.TheVariants.{TapeDamaged}
use Rattle.spill_partitions.specs.declared.partitions.OnTape.{OnTape}
use Rattle.spill_partitions.specs.Partitions.{PendingPartition, partitions_of, left_by}
use Rattle.std.specs.List.{AllByRecursion}

-- the tapes; the level of the pass; its 16 partitions, or none as long as it spilled nothing; the partition that it reads, or none; and
-- those that later passes are to read
pub record PartitionsState : Type 0 where
  pub tapes : TapesState
  pub level : ℕ
  pub partitions : List OnTape
  pub reading : List OnTape
  pub pending : List OnTape

-- how many records the pass spilled, has still to read, and leaves to later passes
abbrev pub count_of : List OnTape → ℕ
count_of tapes = sum_by (λ (partition : OnTape). partition.records) tapes

abbrev pub spilled_number : PartitionsState → ℕ
spilled_number s = count_of s.partitions

abbrev pub ahead_number : PartitionsState → ℕ
ahead_number s = count_of s.reading

abbrev pub waiting_number : PartitionsState → ℕ
waiting_number s = count_of s.pending

-- the pages of a tape of some records, and of the tapes of some partitions
abbrev pub partition_pages : List Record → ℕ
partition_pages records = pages_for (length (tape_bytes records))

abbrev pub pages_of : List PendingPartition → ℕ
pages_of partitions = sum_by (λ (partition : PendingPartition). partition_pages partition.records) partitions

-- how many pages of tapes were written so far: those that are full
abbrev pub full_pages : TapesState → List OnTape → ℕ
full_pages t tapes = sum_by (λ (partition : OnTape). written_len t partition.tape / PAGE) tapes

abbrev pub written_pages : PartitionsState → ℕ
written_pages s = full_pages s.tapes s.partitions

-- over a disk whose last bytes are these, tape by tape these are partitions
abbrev pub AreOn : (ℕ → ℕ → Type 0) → TapesState → List OnTape → List PendingPartition → Type 0
AreOn last t [] [] = Unit {0}
AreOn last t (tape ∷ tapes) (partition ∷ partitions) = IsTape last t tape.tape partition.records × (tape.records ≡ length partition.records)
    × (tape.level ≡ partition.level) × AreOn last t tapes partitions
AreOn last t tapes partitions = ⊥

-- what the pass spilled, and what it has still to read
abbrev pub AreSpilled : (ℕ → ℕ → Type 0) → TapesState → ℕ → List OnTape → List Record → Type 0
AreSpilled last t level [] spilled = spilled ≡ []
AreSpilled last t level (tape ∷ tapes) spilled = AreOn last t (tape ∷ tapes) (partitions_of level spilled)

abbrev pub AreAhead : (ℕ → ℕ → Type 0) → TapesState → List OnTape → List Record → Type 0
AreAhead last t [] ahead = ahead ≡ []
AreAhead last t (tape ∷ tapes) ahead = IsTape last t tape.tape ahead × (tape.records ≡ length ahead)

-- over a disk whose last bytes are these: what the pass spilled, what it has still to read, and the partitions that later passes
-- are to read
pub record HasPartitions (last : ℕ → ℕ → Type 0) (s : PartitionsState) (spilled ahead : List Record) (pending : List PendingPartition) :
    Type 0 where
  pub spilled_are : AreSpilled last s.tapes s.level s.partitions spilled
  pub ahead_are : AreAhead last s.tapes s.reading ahead
  pub pending_are : AreOn last s.tapes s.pending pending

-- a record was added to those that the pass spills, and the pages that became full by it were written
pub record Spilled {D : Type 0} (g : Ghosts D) (entry : Record) (old : PartitionsState) (before : D) (new : PartitionsState) (after : D) :
    Type 0 where
  pub added : (spilled ahead : List Record) (pending : List PendingPartition) → HasPartitions (g.last before) old spilled ahead pending
      → HasPartitions (g.last after) new (spilled ++ entry ∷ []) ahead pending
  pub counted : spilled_number new ≡ spilled_number old + 1
  pub paged : g.writes after + written_pages old ≡ g.writes before + written_pages new
  pub alive : new.tapes.is_dead ≡ false

-- the pass ended: later ones are to read what it spilled, and all pages of that are written
pub record EndsPass {D : Type 0} (g : Ghosts D) (old : PartitionsState) (before : D) (new : PartitionsState) (after : D) : Type 0 where
  pub left : (spilled ahead : List Record) (pending : List PendingPartition) → HasPartitions (g.last before) old spilled ahead pending
      → HasPartitions (g.last after) new [] ahead (pending ++ left_by old.level spilled)
  pub partitions : new.partitions ≡ []
  pub waiting : waiting_number new ≡ waiting_number old + spilled_number old
  pub paged : (spilled ahead : List Record) (pending : List PendingPartition) → HasPartitions (g.last before) old spilled ahead pending
      → g.writes after + written_pages old ≡ g.writes before + pages_of (partitions_of old.level spilled)
  pub alive : new.tapes.is_dead ≡ false

-- what reading the next record of the pass's partition gives. Over an honest disk it is the first that is left, and never damage. Over any
-- disk one less is left then; or there is no record and no bytes, where none is left
pub record ReadsRecord {D : Type 0} (g : Ghosts D) (old : PartitionsState) (before : D) (result : Result (Option (ℕ × ℕ)) SpillError)
    (new : PartitionsState) (after : D) (bytes : List ℕ) : Type 0 where
  pub gives : IfOk result (λ found. IsTrue (g.honest before) → (spilled ahead : List Record) (pending : List PendingPartition)
      → HasPartitions (g.last before) old spilled ahead pending
      → Gives (λ rest. HasPartitions (g.last after) new spilled rest pending) ahead bytes found)
  pub undamaged : IfErr result (λ error. IsTrue (g.honest before) → (spilled ahead : List Record) (pending : List PendingPartition)
      → HasPartitions (g.last before) old spilled ahead pending → error ≢ TapeDamaged)
  pub counted : IfOk result (λ found. IfSome found (λ _. ahead_number old ≡ ahead_number new + 1))
  pub ended : IfOk result (λ found. IfNone found ((ahead_number old ≡ 0) × (new.reading ≡ [])))
  pub framed : IfOk result (λ found. IfSome found (λ told. (told.1 < 2) × (length bytes ≤ MAX_RECORD_LEN)))
  pub none : IfOk result (λ found. IfNone found (bytes ≡ []))
  pub nothing : OnErr result (bytes ≡ [])
  pub alive : OnOk result (new.tapes.is_dead ≡ false)

-- the pass that begins reads the last of the partitions that were to be read
abbrev pub BeginsLast : (ℕ → ℕ → Type 0) → PartitionsState → List PendingPartition → Type 0
BeginsLast last s pending = (others : List PendingPartition) × (partition : PendingPartition) × (pending ≡ others ++ partition ∷ [])
    × (s.level ≡ partition.level) × HasPartitions last s [] partition.records others

abbrev pub BeginsPass : (ℕ → ℕ → Type 0) → PartitionsState → PartitionsState → Type 0
BeginsPass last before after = (pending : List PendingPartition) → HasPartitions last before [] [] pending → BeginsLast last after pending

-- the partition that the pass reads, those that later passes are to read, and how deep it is, are as they were
pub record KeepsRest (before after : PartitionsState) : Type 0 where
  pub reading : after.reading ≡ before.reading
  pub pending : after.pending ≡ before.pending
  pub level : after.level ≡ before.level

-- how often a tape is there; and no tape is there twice
abbrev pub once : TapeId → ℕ → ℕ
once id index = cond (index == id.index) 1 0

abbrev pub times : ℕ → List OnTape → ℕ
times index [] = 0
times index (tape ∷ tapes) = once tape.tape index + times index tapes

abbrev pub AreApart : List OnTape → Type 0
AreApart tapes = (index : ℕ) → times index tapes ≤ 1

-- each tape that is open is one of these; as long as the tapes live, each that is open is one of the partitions'; and that stays so
abbrev pub HoldOpen : TapesState → List OnTape → Type 0
HoldOpen t tapes = (id : TapeId) → is_open t id ≡ true → 1 ≤ times id.index tapes

abbrev pub OwnsOpen : PartitionsState → Type 0
OwnsOpen s = s.tapes.is_dead ≡ false → HoldOpen s.tapes (s.partitions ++ (s.reading ++ s.pending))

abbrev pub KeepsOwn : PartitionsState → PartitionsState → Type 0
KeepsOwn before after = OwnsOpen before → OwnsOpen after

-- these tapes are open; and they are closed, and nothing else
abbrev pub AreOpen : TapesState → List OnTape → Type 0
AreOpen t tapes = AllByRecursion (λ (tape : OnTape). is_open t tape.tape ≡ true) tapes

pub record Closes (before after : TapesState) (tapes : List OnTape) : Type 0 where
  pub closed : (id : TapeId) → is_open after id ≡ true → times id.index tapes ≡ 0
  pub kept : (id : TapeId) → times id.index tapes ≡ 0 → phase_of after id ≡ phase_of before id
  pub alive : after.is_dead ≡ before.is_dead

-- all of them are written; all are read; and all have records
abbrev pub AreWritten : TapesState → List OnTape → Type 0
AreWritten t tapes = AllByRecursion (λ (tape : OnTape). is_written t tape.tape ≡ true) tapes

abbrev pub AreRead : TapesState → List OnTape → Type 0
AreRead t tapes = AllByRecursion (λ (tape : OnTape). is_read t tape.tape ≡ true) tapes

abbrev pub HaveRecords : List OnTape → Type 0
HaveRecords tapes = AllByRecursion (λ (tape : OnTape). 0 < tape.records) tapes

-- those with records; and that a partition is a new one, which has none, of a level
abbrev pub those_with_records : List OnTape → List OnTape
those_with_records tapes = filter (λ (tape : OnTape). not (tape.records == 0)) tapes

pub record IsNewPartition (last : ℕ → ℕ → Type 0) (t : TapesState) (level : ℕ) (partition : OnTape) : Type 0 where
  pub none : IsTape last t partition.tape []
  pub number : partition.records ≡ 0
  pub deep : partition.level ≡ level
  pub written : is_written t partition.tape ≡ true
  pub short : written_len t partition.tape ≡ 0

-- a partition is left to a later pass if it has records, and else is closed
pub record Leaves {D : Type 0} (g : Ghosts D) (partition : OnTape) (old : PartitionsState) (before : D) (new : PartitionsState)
    (after : D) :
    Type 0 where
  pub left : new.pending ≡ old.pending ++ those_with_records (partition ∷ [])
  pub paged : (records : List Record) → IsTape (g.last before) old.tapes partition.tape records → partition.records ≡ length records
      → g.writes after + written_len old.tapes partition.tape / PAGE ≡ g.writes before + partition_pages records
  pub kept : 0 < partition.records → (records : List Record) → IsTape (g.last before) old.tapes partition.tape records
      → IsTape (g.last after) new.tapes partition.tape records
  pub closed : partition.records ≡ 0 → is_open new.tapes partition.tape ≡ false
  pub alive : new.tapes.is_dead ≡ false

-- a partition of a level was opened, which has no record
pub record Opens (last : ℕ → ℕ → Type 0) (before after : TapesState) (level : ℕ) (partition : OnTape) : Type 0 where
  pub new : IsNewPartition last after level partition
  pub fresh : is_open before partition.tape ≡ false
  pub others : KeepsOthers last last before after partition.tape

-- the 16 partitions of the pass are open, and what it spilled is as it was
pub record AreOpened (last : ℕ → ℕ → Type 0) (before after : PartitionsState) : Type 0 where
  pub opened : (spilled ahead : List Record) (pending : List PendingPartition) → HasPartitions last before spilled ahead pending
      → HasPartitions last after spilled ahead pending
  pub sixteen : length after.partitions ≡ PARTITIONS
  pub counted : spilled_number after ≡ spilled_number before
  pub paged : written_pages after ≡ written_pages before

-- nothing is spilled, read or left, at the first level
pub record IsNew (last : ℕ → ℕ → Type 0) (s : PartitionsState) : Type 0 where
  pub alive : s.tapes.is_dead ≡ false
  pub none : HasPartitions last s [] [] []
  pub partitions : s.partitions ≡ []
  pub reading : s.reading ≡ []
  pub pending : s.pending ≡ []
  pub level : s.level ≡ 0
  pub owns : OwnsOpen s

-- a number is that of the records that the pass spilled
pub record IsSpilledNumber (last : ℕ → ℕ → Type 0) (s : PartitionsState) (n : ℕ) : Type 0 where
  pub number : n ≡ spilled_number s
  pub count : (spilled ahead : List Record) (pending : List PendingPartition) → HasPartitions last s spilled ahead pending
      → n ≡ length spilled

-- what is true of all partitions
pub record ArePartitions (s : PartitionsState) : Type 0 where
  pub apart : AreApart (s.partitions ++ (s.reading ++ s.pending))
  pub sixteen : (s.partitions ≡ []) ⊎ (length s.partitions ≡ PARTITIONS)
  pub written : s.tapes.is_dead ≡ false → AreWritten s.tapes s.partitions
  pub read : s.tapes.is_dead ≡ false → AreRead s.tapes (s.reading ++ s.pending)
  pub filled : HaveRecords s.pending
