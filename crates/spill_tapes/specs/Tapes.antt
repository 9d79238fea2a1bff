-- Tapes as their users see them: some are open, each is written first and then read, and each is a list of records. All of this is our own.
use Rattle.std.specs.Prelude.{◌≡◌, ◌≢◌, ℕ, ◌+◌, ◌*◌, ◌/◌, ◌<◌, ◌≤◌, Bool, true, false, not, List}
use Rattle.std.specs.Prelude.{[], ◌∷◌, ◌++◌, length, get_or, Result, Err}
use Rattle.std.specs.Prelude.{Option, IsTrue, IfOk, IfErr, IfSome, IfNone, OnOk, OnErr}
use Rattle.std.specs.List.{sum_by}
use Rattle.spill_tapes.specs.Records.{Record}
use Rattle.spill_tapes.specs.Pages.{PoolState, IsPool, times, below, pages_for}
use Rattle.spill_tapes.specs.Tape.{TapeState, no_tape, tape_len, is_in, IsGood, Has, Gives, IsCounted}
use Rattle.spill_tapes.specs.declared.error.TapeError.{TapeError}
use Rattle.spill_tapes.specs.declared.error.TapeError.TheVariants.{NoMemory, TapeDamaged, TapesDead}
use Rattle.spill_tapes.specs.declared.tape.Phase.{Phase}
use Rattle.spill_tapes.specs.declared.tape.Phase.TheVariants.{Closed, Written, Read}
use Rattle.spill_tapes.specs.declared.tape_id.TapeId.{TapeId}
use Rattle.spill_tapes.specs.declared.limits.TheConstants.{FRONT, MAX_RECORD_LEN}
use Rattle.tape_disks.specs.declared.disk.TapeDisk.{Ghosts}
use Rattle.tape_disks.specs.declared.limits.TheConstants.{PAGE}

-- whether a call failed; the tapes; and their pages
pub record TapesState : Type 0 where
  pub is_dead : Bool
  pub tapes : List TapeState
  pub pool : PoolState

abbrev pub tape_at : TapesState → TapeId → TapeState
tape_at t id = get_or t.tapes id.index no_tape

-- what is done with a tape; and whether it is open, being written, or read
abbrev pub phase_of : TapesState → TapeId → Phase
phase_of t id = (tape_at t id).phase

abbrev pub is_open : TapesState → TapeId → Bool
is_open t id = not (is_in Closed (phase_of t id))

abbrev pub is_written : TapesState → TapeId → Bool
is_written t id = is_in Written (phase_of t id)

abbrev pub is_read : TapesState → TapeId → Bool
is_read t id = is_in Read (phase_of t id)

-- the tapes of the places before one are open
abbrev pub AreOpenBefore : TapesState → ℕ → Type 0
AreOpenBefore t place = (earlier : ℕ) → earlier < place → phase_of t (record { index = earlier }) ≢ Closed

-- how many bytes were written to a tape that is being written
abbrev pub written_len : TapesState → TapeId → ℕ
written_len t id = tape_len (tape_at t id)

-- how many records were put on a tape that is written, or are still to be read
abbrev pub record_count : TapesState → TapeId → ℕ
record_count t id = (tape_at t id).records

-- how many bytes of memory the buffer of a tape takes
abbrev pub buffer_room : TapesState → TapeId → ℕ
buffer_room t id = (tape_at t id).room

-- over a disk whose last bytes are these, an open tape is this list of records: all that were written to it, or all that are
-- still to be read
abbrev pub IsTape : (ℕ → ℕ → Type 0) → TapesState → TapeId → List Record → Type 0
IsTape last t id rs = Has last (tape_at t id) rs

-- the other tapes are as they were, with the same buffers and the same records
pub record KeepsOthers (last last' : ℕ → ℕ → Type 0) (before after : TapesState) (tape : TapeId) : Type 0 where
  pub phases : (id : TapeId) → id ≢ tape → phase_of after id ≡ phase_of before id
  pub lens : (id : TapeId) → id ≢ tape → written_len after id ≡ written_len before id
  pub counts : (id : TapeId) → id ≢ tape → record_count after id ≡ record_count before id
  pub rooms : (id : TapeId) → id ≢ tape → buffer_room after id ≡ buffer_room before id
  pub records : (id : TapeId) → id ≢ tape → (rs : List Record) → IsTape last before id rs → IsTape last' after id rs

-- why no tape is opened, by whether the tapes were dead; why a call is refused that writes; and one that reads
abbrev pub IsOpenRefusal : Bool → TapeError → Type 0
IsOpenRefusal dead NoMemory = dead ≡ false
IsOpenRefusal dead TapesDead = dead ≡ true
IsOpenRefusal dead _ = ⊥

abbrev pub IsRefusal : Bool → TapeError → Type 0
IsRefusal dead TapesDead = dead ≡ true
IsRefusal dead TapeDamaged = ⊥
IsRefusal dead _ = dead ≡ false

abbrev pub IsReadRefusal : Bool → TapeError → Type 0
IsReadRefusal dead TapesDead = dead ≡ true
IsReadRefusal dead _ = dead ≡ false

-- how a call ends that reads or writes the disk. Dead tapes refuse it, and nothing is changed. Where living tapes refuse it, for one of
-- these reasons, they are dead from then on
pub record DiesIfRefused {T D : Type 0} (IsReason : Bool → TapeError → Type 0) (result : Result T TapeError) (old new : TapesState)
    (before after : D) : Type 0 where
  pub dead : old.is_dead ≡ true → result ≡ Err TapesDead
  pub unchanged : old.is_dead ≡ true → (new ≡ old) × (after ≡ before)
  pub refused : IfErr result (IsReason old.is_dead)
  pub alive : OnOk result (new.is_dead ≡ false)
  pub dies : OnErr result (new.is_dead ≡ true)

-- each tape is as before closed, being written or read
abbrev pub KeepsPhases : TapesState → TapesState → Type 0
KeepsPhases before after = (id : TapeId) → phase_of after id ≡ phase_of before id

-- a tape with no record was opened, to be written, in the first place where none was open
pub record IsOpened (last : ℕ → ℕ → Type 0) (before after : TapesState) (tape : TapeId) : Type 0 where
  pub fresh : is_open before tape ≡ false
  pub first : AreOpenBefore before tape.index
  pub written : is_written after tape ≡ true
  pub none : written_len after tape ≡ 0
  pub empty : IsTape last after tape []
  pub others : KeepsOthers last last before after tape

-- a record was put after those of a tape, and the pages that it filled were written
pub record Appends {D : Type 0} (g : Ghosts D) (tape : TapeId) (entry : Record) (old : TapesState) (before : D) (new : TapesState)
    (after : D) : Type 0 where
  pub records : (rs : List Record) → IsTape (g.last before) old tape rs → IsTape (g.last after) new tape (rs ++ entry ∷ [])
  pub longer : written_len new tape ≡ written_len old tape + (FRONT + length entry.bytes)
  pub counted : g.writes after + written_len old tape / PAGE ≡ g.writes before + written_len new tape / PAGE

-- a tape with the same records is to be read, and its last page was written. It has no buffer as long as it waits to be read
pub record Rewinds {D : Type 0} (g : Ghosts D) (tape : TapeId) (old : TapesState) (before : D) (new : TapesState) (after : D) : Type 0 where
  pub read : is_read new tape ≡ true
  pub records : (rs : List Record) → IsTape (g.last before) old tape rs → IsTape (g.last after) new tape rs
  pub counted : g.writes after + written_len old tape / PAGE ≡ g.writes before + pages_for (written_len old tape)
  pub room : buffer_room new tape ≡ 0

-- the pages that a tape no longer has are free, and no new page number was given out
pub record FreesPages (before after : TapesState) (tape : TapeId) : Type 0 where
  pub free : length after.pool.free + length (tape_at after tape).pages ≡ length before.pool.free + length (tape_at before tape).pages
  pub count : after.pool.count ≡ before.pool.count

-- a tape that is read has no page more than what is left of it takes. So a page that was read isn't one of its pages
abbrev pub HasNoPageMore : TapeState → Type 0
HasNoPageMore t = PAGE * length t.pages < t.left + PAGE

-- what reading the next record of a tape gives. Over an honest disk it is the first that is left, and never damage. Over any disk it is a
-- record that a tape can have, and one less is left; or no record and no bytes, where none is left
pub record ReadsNext {D : Type 0} (g : Ghosts D) (tape : TapeId) (old : TapesState) (before : D)
    (result : Result (Option (ℕ × ℕ)) TapeError) (new : TapesState) (after : D) (bytes : List ℕ) : Type 0 where
  pub gives : IfOk result (λ found. IsTrue (g.honest before) → (rs : List Record) → IsTape (g.last before) old tape rs
      → Gives (IsTape (g.last after) new tape) rs bytes found)
  pub undamaged : IfErr result (λ error. IsTrue (g.honest before) → (rs : List Record) → IsTape (g.last before) old tape rs
      → error ≢ TapeDamaged)
  pub counted : IfOk result (IsCounted (record_count old tape) (record_count new tape))
  pub framed : IfOk result (λ found. IfSome found (λ told. (told.1 < 2) × (length bytes ≤ MAX_RECORD_LEN)))
  pub none : IfOk result (λ found. IfNone found (bytes ≡ []))
  pub nothing : OnErr result (bytes ≡ [])
  pub few : OnOk result (HasNoPageMore (tape_at new tape))

-- what is true of all tapes. Each page that was given out is free or belongs to one tape, and only open tapes have pages. As long as no
-- call failed, each tape has what its phase says
pub record AreTapes (t : TapesState) : Type 0 where
  pub pool : IsPool t.pool
  pub each : (page : ℕ) → times page t.pool.free + sum_by (λ x. times page x.pages) t.tapes ≡ below page t.pool.count
  pub all : length t.pool.free + sum_by (λ x. length x.pages) t.tapes ≡ t.pool.count
  pub closed : (i : ℕ) → (get_or t.tapes i no_tape).phase ≡ Closed → (get_or t.tapes i no_tape).pages ≡ []
  pub good : t.is_dead ≡ false → (i : ℕ) → IsGood (get_or t.tapes i no_tape)
