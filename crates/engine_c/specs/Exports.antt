-- What the exported functions do to slots, by what the calls of a session do. All of this is our own.
use Rattle.std.specs.Prelude.{◌≡◌, ◌≢◌, ◌<◌, ◌≤◌, ◌++◌, ◌⊎◌, ℕ, Bool, true, false, List, length, drop}
use Rattle.std.specs.Prelude.{[], ◌∷◌, slice_get, Option, Some, None, is_some, IsSome, Result, IfOk, OnOk, OnErr}
use Rattle.engine.specs.Calls.{Held, Refusal, Delivered, Folded, Early, Known, Format, Csv, Aligned, Tsv, Json}
use Rattle.engine_calls.specs.Calls.{OnSession, OpensBy, Asks}
use Rattle.engine.specs.Sessions.{SessionState}
use Rattle.engine_calls.specs.Keeping.{KeptState, ReasonOnAsking, ReasonOnClosed, ReasonOnMerge, ReasonOnOpen, Unchanged, nothing}
use Rattle.engine_calls.specs.declared.last.Asked.{Asked}
use Rattle.engine.specs.Statuses.{status_number, status_name, number_told}
use Rattle.engine.specs.declared.status.Status.{Status}
use Rattle.engine.specs.declared.status.Status.TheVariants.{Done, NoMemory, TooShort, NotOpen, NoSuchName}
use Rattle.engine_c.specs.declared.delivery.Delivery.{Delivery}

-- what a slot keeps: nothing if it is empty
abbrev pub kept_by : Option KeptState → KeptState
kept_by None = nothing
kept_by (Some kept) = kept

-- what became of a batch, as two numbers
abbrev pub delivery_of : Delivered → Delivery
delivery_of (Folded upto) = record { kind = 0; upto = upto }
delivery_of Early = record { kind = 1; upto = 0 }
delivery_of Known = record { kind = 2; upto = 0 }

-- the format of a table
abbrev pub format_by : Bool → Format
format_by true = Aligned
format_by false = Csv

-- the format of a number, if there is one
abbrev pub format_numbered : ℕ → Option Format
format_numbered number = slice_get (Csv ∷ Aligned ∷ Tsv ∷ Json ∷ []) number

-- a call gives nothing but its status
abbrev pub GivesNothing : Unit {0} → Type 0
GivesNothing done = Unit {0}

-- bytes are handed out: they are at the front of the buffer if it is long enough, and else nothing is written; their length is given in
-- any case
pub record HandsOut (bytes old new : List ℕ) (wanted status : ℕ) : Type 0 where
  pub long : wanted ≡ length bytes
  pub fits : length bytes ≤ length old → (status ≡ status_number Done) × (new ≡ bytes ++ drop (length bytes) old)
  pub short : length old < length bytes → (status ≡ status_number TooShort) × (new ≡ old)

-- the last result of a slot's session is handed out; of an empty slot nothing is
abbrev pub Fetches : Option KeptState → (old new : List ℕ) (wanted status : ℕ) → Type 0
Fetches None old new wanted status = (status ≡ status_number NotOpen) × (wanted ≡ 0) × (new ≡ old)
Fetches (Some kept) old new wanted status = HandsOut kept.told old new wanted status

-- the name of a status is handed out; if there is none, nothing is
abbrev pub Names : Option Status → (old new : List ℕ) (wanted status : ℕ) → Type 0
Names None old new wanted status = (status ≡ status_number NoSuchName) × (wanted ≡ 0) × (new ≡ old)
Names (Some named) old new wanted status = HandsOut (status_name named) old new wanted status

-- a slot is full after a call exactly if it was full before
abbrev pub StaysFull : (old new : Option KeptState) → Type 0
StaysFull old new = is_some new ≡ is_some old

-- a call that opens a session fills its slot, unless memory runs out, and a full slot stays full
pub record FillsSlot (old new : Option KeptState) (status : ℕ) : Type 0 where
  pub filled : status ≢ status_number NoMemory → IsSome new
  pub full : IsSome old → IsSome new

-- which reason is kept after a call that wants a session, opens one, merges another's, or asks one
abbrev pub KeepsReason : {T : Type 0} → Asked → (old new : KeptState) → Result T Status → Type 0
KeepsReason asked old new result = ReasonOnOpen asked old.session old.reason new.reason result

abbrev pub OpensReason : {T : Type 0} → Asked → (old new : KeptState) → Result T Status → Type 0
OpensReason asked old new result = ReasonOnClosed asked old.session old.reason new.reason result

abbrev pub MergesReason : {T : Type 0} → (other : Option SessionState) → (old new : KeptState) → Result T Status → Type 0
MergesReason other old new result = ReasonOnMerge other old.session old.reason new.reason result

abbrev pub AsksReason : {T : Type 0} → (old new : KeptState) → Result T Status → Type 0
AsksReason old new result = ReasonOnAsking old.session old.reason new.reason result

-- a call on a slot does so, keeps such a reason, and returns the number of its status. On success it gives its result, and else nothing
-- changed, except which refusal was the last
pub record CallsSlot {T : Type 0} (does keeps : (old new : KeptState) → Result T Status → Type 0) (gives : T → Type 0)
    (old new : Option KeptState) (status : ℕ) : Type 0 where
  pub outcome : Result T Status
  pub calls : does (kept_by old) (kept_by new) outcome
  pub reasoned : keeps (kept_by old) (kept_by new) outcome
  pub ended : status ≡ number_told outcome
  pub given : IfOk outcome gives
  pub told : (kept_by new).told ≡ (kept_by old).told
  pub same : OnErr outcome (Unchanged (kept_by old) (kept_by new))

-- an empty slot stays empty, since memory ran out for what it would keep, even for why
pub record StaysEmpty (old new : Option KeptState) (status : ℕ) : Type 0 where
  pub was : old ≡ None
  pub stays : new ≡ None
  pub ended : status ≡ status_number NoMemory

-- a call that opens a session does so to what its slot keeps, unless the slot stays empty for want of memory
abbrev pub OpensSlot : Asked → (makes : Result SessionState Refusal → Type 0) → (old new : Option KeptState) → (status : ℕ) → Type 0
OpensSlot asked makes old new status =
    CallsSlot (OpensBy makes) (OpensReason asked) GivesNothing old new status ⊎ StaysEmpty old new status

-- a call on a slot asks its session, keeps such a reason, and returns the number of its status. On success it gives the length of the
-- result, and else nothing changed, except which refusal was the last
pub record AsksSlot {T : Type 0} (tells : Held → List ℕ → T → Type 0) (refuses : Held → Refusal → Type 0)
    (keeps : (old new : KeptState) → Result T Status → Type 0) (gives : T → Type 0) (old new : Option KeptState) (wanted : ℕ) (status : ℕ) :
    Type 0 where
  pub outcome : Result T Status
  pub asks : OnSession (Asks tells refuses (kept_by new).told) (kept_by old) (kept_by new) outcome
  pub reasoned : keeps (kept_by old) (kept_by new) outcome
  pub ended : status ≡ number_told outcome
  pub given : IfOk outcome gives
  pub long : OnOk outcome (wanted ≡ length (kept_by new).told)
  pub same : OnErr outcome (Unchanged (kept_by old) (kept_by new))
