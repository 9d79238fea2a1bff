-- One tape. All of this is our own.
use Rattle.std.specs.Prelude.{Bool, true, false, ◌≡◌, IsTrue, IfSome, IfNone, ℕ, ◌+◌, ◌-◌, ◌*◌, ◌<◌, ◌≤◌, ◌==◌, List, [], ◌∷◌, ◌++◌, length}
use Rattle.std.specs.Prelude.{drop, Option, Some, None, Result, OnOk}
use Rattle.std.specs.List.{flat_map}
use Rattle.spill_tapes.specs.Records.{Record, IsRecord, AreRecords, tape_bytes}
use Rattle.tape_disks.specs.Calls.{failed}
use Rattle.tape_disks.specs.Disk.{OnlyReads}
use Rattle.tape_disks.specs.Errors.{disk_faults}
use Rattle.tape_disks.specs.declared.disk.DiskError.{DiskError}
use Rattle.tape_disks.specs.declared.disk.TapeDisk.{Ghosts}
use Rattle.spill_tapes.specs.Pages.{AreOn, PoolState, GivesBack}
use Rattle.spill_tapes.specs.declared.header.Header.{Header}
use Rattle.spill_tapes.specs.declared.tape.Phase.{Phase}
use Rattle.spill_tapes.specs.declared.tape.Phase.TheVariants.{Closed, Written, Read}
use Rattle.tape_disks.specs.declared.limits.TheConstants.{PAGE}
use Rattle.spill_tapes.specs.declared.limits.TheConstants.{MAX_RECORD_LEN}

-- whether a tape is in a phase
abbrev pub is_in : Phase → Phase → Bool
is_in Closed Closed = true
is_in Written Written = true
is_in Read Read = true
is_in _ _ = false

-- its phase; its pages that are to be read; its buffer, how many bytes of memory that takes, and how many of its bytes were read; and how
-- many bytes and records are to be read
pub record TapeState : Type 0 where
  pub phase : Phase
  pub pages : List ℕ
  pub buffer : List ℕ
  pub room : ℕ
  pub read : ℕ
  pub left : ℕ
  pub records : ℕ

abbrev pub no_tape : TapeState
no_tape = record { phase = Closed; pages = []; buffer = []; room = 0; read = 0; left = 0; records = 0 }

abbrev pub new_tape : TapeState
new_tape = record { phase = Written; pages = []; buffer = []; room = 0; read = 0; left = 0; records = 0 }

-- how many bytes were written to it
abbrev pub tape_len : TapeState → ℕ
tape_len t = PAGE * length t.pages + length t.buffer

-- how many bytes there are to read
abbrev pub ahead : TapeState → ℕ
ahead t = (length t.buffer - t.read) + PAGE * length t.pages

abbrev pub join : List (List ℕ) → List ℕ
join contents = flat_map (λ bytes. bytes) contents

-- these bytes were written to a tape
pub record HasWritten (last : ℕ → ℕ → Type 0) (t : TapeState) (bytes : List ℕ) : Type 0 where
  pub contents : List (List ℕ)
  pub on : AreOn last t.pages contents
  pub whole : bytes ≡ join contents ++ t.buffer

-- these bytes are to be read from a tape
pub record HasAhead (last : ℕ → ℕ → Type 0) (t : TapeState) (bytes : List ℕ) : Type 0 where
  pub contents : List (List ℕ)
  pub on : AreOn last t.pages contents
  pub whole : bytes ≡ drop t.read t.buffer ++ join contents

-- a tape has the same phase, and as much to be read
pub record IsSameTape (before after : TapeState) : Type 0 where
  pub phase : after.phase ≡ before.phase
  pub left : after.left ≡ before.left
  pub records : after.records ≡ before.records

-- some bytes of the buffer were read
abbrev pub spent : TapeState → ℕ → TapeState
spent t n = record {
  phase = t.phase;
  pages = t.pages;
  buffer = t.buffer;
  room = t.room;
  read = t.read + n;
  left = t.left;
  records = t.records;
}

-- what is true of a tape that is being written: no whole page waits in its buffer, and it has bytes only of records
pub record IsGoodWritten (t : TapeState) : Type 0 where
  pub small : length t.buffer < PAGE
  pub number : t.records ≤ tape_len t
  pub begun : t.records ≡ 0 → tape_len t ≡ 0

-- and of one that is being read. It has the pages of the bytes that are left to be read and no other, since a page that was read is free.
-- After its last record nothing is left
pub record IsGoodRead (t : TapeState) : Type 0 where
  pub read : t.read ≤ length t.buffer
  pub left : t.left ≤ ahead t
  pub pages : ahead t < t.left + PAGE
  pub end : t.records ≡ 0 → t.left ≡ 0

-- how a part of a record is read: pages that were read are freed, the tape is read on, and the disk is only read
pub record ReadsPart {D X : Type 0} (g : Ghosts D) (given : PoolState) (old : TapeState) (before : D) (result : Result X DiskError)
    (taken : PoolState) (new : TapeState) (after : D) : Type 0 where
  pub pages : GivesBack given old.pages taken new.pages
  pub phase : new.phase ≡ old.phase
  pub good : OnOk result (IsGoodRead new)
  pub disk : OnlyReads g (failed disk_faults result) before after

-- what is true of a tape by its phase
abbrev pub IsGoodIn : Phase → TapeState → Type 0
IsGoodIn Closed t = t.pages ≡ []
IsGoodIn Written t = IsGoodWritten t
IsGoodIn Read t = IsGoodRead t

abbrev pub IsGood : TapeState → Type 0
IsGood t = IsGoodIn t.phase t

-- a tape is a list of records: all that were written, or all that are to be read. What is after these on its last page
-- tells nothing
pub record AreWritten (last : ℕ → ℕ → Type 0) (t : TapeState) (rs : List Record) : Type 0 where
  pub good : AreRecords rs
  pub number : t.records ≡ length rs
  pub bytes : HasWritten last t (tape_bytes rs)

pub record AreAhead (last : ℕ → ℕ → Type 0) (t : TapeState) (rs : List Record) : Type 0 where
  pub good : AreRecords rs
  pub number : t.records ≡ length rs
  pub left : t.left ≡ length (tape_bytes rs)
  pub rest : List ℕ
  pub bytes : HasAhead last t (tape_bytes rs ++ rest)

abbrev pub HasIn : Phase → (ℕ → ℕ → Type 0) → TapeState → List Record → Type 0
HasIn Closed last t rs = ⊥
HasIn Written last t rs = AreWritten last t rs
HasIn Read last t rs = AreAhead last t rs

abbrev pub Has : (ℕ → ℕ → Type 0) → TapeState → List Record → Type 0
Has last t rs = HasIn t.phase last t rs

-- the front of the first of these records was read
pub record IsAfterHeader (last : ℕ → ℕ → Type 0) (t : TapeState) (h : Header) (rs : List Record) : Type 0 where
  pub first : Record
  pub others : List Record
  pub is : rs ≡ first ∷ others
  pub good : IsRecord first
  pub goods : AreRecords others
  pub hash : h.hash ≡ first.hash
  pub tag : h.tag ≡ first.tag
  pub len : h.len ≡ length first.bytes
  pub number : t.records ≡ length others + 1
  pub left : t.left ≡ length first.bytes + length (tape_bytes others)
  pub rest : List ℕ
  pub bytes : HasAhead last t (first.bytes ++ (tape_bytes others ++ rest))

-- a tape without its buffer, if there are no more records to be read
abbrev pub ended_by : Bool → TapeState → TapeState
ended_by true t = record { phase = t.phase; pages = t.pages; buffer = []; room = 0; read = 0; left = 0; records = t.records }
ended_by false t = t

abbrev pub ended : TapeState → TapeState
ended t = ended_by (t.records == 0) t

-- what a read returns of the next of these records
abbrev pub Gives : (List Record → Type 0) → List Record → List ℕ → Option (ℕ × ℕ) → Type 0
Gives IsRest rs bytes None = (rs ≡ []) × IsRest []
Gives IsRest rs bytes (Some told) = (rest : List Record) × (rs ≡ record { hash = told.0; tag = told.1; bytes = bytes } ∷ rest) × IsRest rest

-- a tape that is read ends where no record is left, and a record that was found is left no more
abbrev pub IsCounted : {A : Type 0} → (before after : ℕ) → Option A → Type 0
IsCounted before after None = before ≡ 0
IsCounted before after (Some found) = before ≡ after + 1

-- what reading the next record of a tape returned. If the disk is honest, it is the first of those ahead. Over any disk it is that none is
-- left, or a tag and bytes that a record can have
pub record IsGiven (honest : Bool) (last : ℕ → ℕ → Type 0) (before : TapeState) (last' : ℕ → ℕ → Type 0) (after : TapeState)
    (bytes : List ℕ) (found : Option (ℕ × ℕ)) : Type 0 where
  pub good : IsGood after
  pub gives : IsTrue honest → (rs : List Record) → AreAhead last before rs → Gives (AreAhead last' after) rs bytes found
  pub counted : IsCounted before.records after.records found
  pub none : IfNone found (bytes ≡ [])
  pub framed : IfSome found (λ told. (told.1 < 2) × (length bytes ≤ MAX_RECORD_LEN))
