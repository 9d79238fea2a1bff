-- What is kept between the calls of an outside caller. All of this is our own.
use Rattle.std.specs.Prelude.{◌≡◌, ℕ, List, [], ◌++◌, Option, Some, None, Result, Ok, Err, option_map, option_and_then, string_bytes}
use Rattle.std.specs.declared.alloc.AllocError.{AllocError}
use Rattle.engine.specs.Calls.{Refusal}
use Rattle.engine.specs.Sessions.{SessionState}
use Rattle.sentences.specs.declared.reason.Reason.{Reason}
use Rattle.engine_calls.specs.declared.last.Asked.{Asked}
use Rattle.engine_calls.specs.declared.last.Asked.TheVariants.{Merge}
use Rattle.engine_calls.specs.declared.last.CallReason.{CallReason}
use Rattle.engine_calls.specs.declared.last.Last.{Last}

-- a reason of a refusal: what the call asked, and the sentence, with the picture of its place
pub record ReasonState : Type 0 where
  pub asked : Asked
  pub text : List ℕ

abbrev pub text_of : Reason → List ℕ
text_of reason = string_bytes reason.said ++ string_bytes reason.picture

abbrev pub reason_state : CallReason → ReasonState
reason_state kept = record { asked = kept.asked; text = text_of kept.reason }

-- the session, if one is open, what was told last, until it is fetched, the last refusal, if there was one, and its reason, if there was
-- memory for it
pub record KeptState : Type 0 where
  pub session : Option SessionState
  pub told : List ℕ
  pub why : Option Refusal
  pub reason : Option ReasonState

abbrev pub why_of : Option Last → Option Refusal
why_of last = option_map (λ l. l.why) last

abbrev pub reason_of : Option Last → Option ReasonState
reason_of last = option_and_then (λ l. option_map reason_state l.reason) last

-- what is kept of the reason that was made of a refusal
abbrev pub reason_made : Asked → Result (Option Reason) AllocError → Option ReasonState
reason_made asked (Ok (Some reason)) = Some (record { asked = asked; text = text_of reason })
reason_made asked other = None

-- no session is open, nothing was told, and nothing was refused
abbrev pub nothing : KeptState
nothing = record { session = None; told = []; why = None; reason = None }

-- nothing changes, except which refusal was the last, and its reason
pub record Unchanged (old new : KeptState) : Type 0 where
  pub session : new.session ≡ old.session
  pub told : new.told ≡ old.told

-- a reason is none, or that of a call which asked this
abbrev pub IsOfCall : Asked → Option ReasonState → Type 0
IsOfCall asked None = Unit {0}
IsOfCall asked (Some reason) = reason.asked ≡ asked

-- which reason is kept after a call that wants a session: its own where the session refused it, and else that of the refusal before
abbrev pub ReasonOnOpen : {T E : Type 0} → Asked → Option SessionState → (was now : Option ReasonState) → Result T E → Type 0
ReasonOnOpen {T} {E} asked None was now result = now ≡ was
ReasonOnOpen {T} {E} asked (Some session) was now (Ok done) = now ≡ was
ReasonOnOpen {T} {E} asked (Some session) was now (Err status) = IsOfCall asked now

-- and after one that opens a session: its own where none is open and none is made
abbrev pub ReasonOnClosed : {T E : Type 0} → Asked → Option SessionState → (was now : Option ReasonState) → Result T E → Type 0
ReasonOnClosed {T} {E} asked (Some session) was now result = now ≡ was
ReasonOnClosed {T} {E} asked None was now (Ok done) = now ≡ was
ReasonOnClosed {T} {E} asked None was now (Err status) = IsOfCall asked now

-- and after one that merges what another caller keeps
abbrev pub ReasonOnMerge : {T E : Type 0} → Option SessionState → Option SessionState → (was now : Option ReasonState) → Result T E → Type 0
ReasonOnMerge {T} {E} None session was now result = now ≡ was
ReasonOnMerge {T} {E} (Some other) session was now result = ReasonOnOpen Merge session was now result

-- and after one that asks a session something for which it is refused only where memory runs out: none
abbrev pub ReasonOnAsking : {T E : Type 0} → Option SessionState → (was now : Option ReasonState) → Result T E → Type 0
ReasonOnAsking {T} {E} None was now result = now ≡ was
ReasonOnAsking {T} {E} (Some session) was now (Ok done) = now ≡ was
ReasonOnAsking {T} {E} (Some session) was now (Err status) = now ≡ None
