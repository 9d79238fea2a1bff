-- What the calls do, by what those of a session do. All of this is our own.
use Rattle.std.specs.Prelude.{◌≡◌, ℕ, List, Option, Some, None, Result, Ok, Err, IsOk}
use Rattle.engine.specs.Calls.{Held, Refusal, NoMemory, MergesSession}
use Rattle.engine.specs.Places.{place_of, numbers}
use Rattle.engine.specs.Sessions.{SessionState}
use Rattle.engine.specs.Statuses.{status_of, told_by}
use Rattle.engine.specs.declared.place.Place.{Place}
use Rattle.engine.specs.declared.status.Status.{Status}
use Rattle.engine.specs.declared.status.Status.TheVariants.{NotOpen, AlreadyOpen}
use Rattle.engine_calls.specs.Keeping.{KeptState}

-- the last refusal, after one more call that a session answers
abbrev pub last_after : {T : Type 0} → Result T Refusal → Option Refusal → Option Refusal
last_after (Ok answered) was = was
last_after (Err why) was = Some why

-- the place of the last refusal; none is known if there was none
abbrev pub last_place : Option Refusal → Place
last_place None = numbers 0 0 0
last_place (Some why) = place_of why

-- what a call that wants a session does to it, by the session and the last refusal, before and after: where none is open that is told and
-- nothing changes; else the session does so, and a refusal is told by its status, and is the last
abbrev pub OnOpen : {T : Type 0} → (does : SessionState → SessionState → Result T Refusal → Type 0) → (old new : Option SessionState)
    → (was last : Option Refusal) → Result T Status → Type 0
OnOpen does None new was last result = (new ≡ None) × (last ≡ was) × (result ≡ Err NotOpen)
OnOpen {T = T} does (Some old) new was last result = (session : SessionState) × (outcome : Result T Refusal) × (new ≡ Some session)
    × does old session outcome × (last ≡ last_after outcome was) × (result ≡ told_by outcome)

-- a call that wants a session
abbrev pub OnSession : {T : Type 0} → (does : SessionState → SessionState → Result T Refusal → Type 0) → (old new : KeptState)
    → Result T Status → Type 0
OnSession does old new result = OnOpen does old.session new.session old.why new.why result

-- what a call that opens a session does, in the same way: where one is open that is told and nothing changes; else one is made, or why it
-- is not, and that is the last refusal
abbrev pub OnClosed : {T : Type 0} → (makes : Result SessionState Refusal → Type 0) → (old new : Option SessionState)
    → (was last : Option Refusal) → Result T Status → Type 0
OnClosed makes (Some old) new was last result = (new ≡ Some old) × (last ≡ was) × (result ≡ Err AlreadyOpen)
OnClosed makes None (Some new) was last result = makes (Ok new) × (last ≡ was) × IsOk result
OnClosed makes None None was last result = (why : Refusal) × makes (Err why) × (last ≡ Some why) × (result ≡ Err (status_of why))

-- a call that opens a session
abbrev pub OpensBy : {T : Type 0} → (makes : Result SessionState Refusal → Type 0) → (old new : KeptState) → Result T Status → Type 0
OpensBy makes old new result = OnClosed makes old.session new.session old.why new.why result

-- a call that asks a session, which stays as it is: what is answered is told
abbrev pub Asks : {T : Type 0} → (tells : Held → List ℕ → T → Type 0) → (refuses : Held → Refusal → Type 0) → (told : List ℕ)
    → SessionState → SessionState → Result T Refusal → Type 0
Asks tells refuses told old new (Ok answered) = (new ≡ old) × tells old.held told answered
Asks tells refuses told old new (Err why) = (new ≡ old) × refuses old.held why

-- it is refused only because memory ran out
abbrev pub ForMemory : Held → Refusal → Type 0
ForMemory held why = why ≡ NoMemory

-- a call that merges what another caller keeps: where that has no session, this is told and nothing changes
abbrev pub MergesWith : {T : Type 0} → Option SessionState → (old new : KeptState) → Result T Status → Type 0
MergesWith None old new result = (new.session ≡ old.session) × (new.why ≡ old.why) × (result ≡ Err NotOpen)
MergesWith (Some other) old new result = OnSession (MergesSession other) old new result
