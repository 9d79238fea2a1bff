-- What a call of an outside caller does, by what it does to the session.
use Rattle.std.specs.Prelude.{◌≡◌, ℕ, List, Option, Some, None, Result, Ok, Err, IsOk, refl}
use Rattle.std.proofs.Common.{ap, subst, sym, ◌∙◌}
use Rattle.engine.specs.Calls.{Held, Refusal}
use Rattle.engine.specs.Sessions.{SessionState}
use Rattle.engine.specs.Statuses.{status_of, told_by}
use Rattle.engine.specs.declared.status.Status.{Status}
use Rattle.engine.specs.declared.status.Status.TheVariants.{NotOpen, AlreadyOpen}
use Rattle.engine_calls.specs.Calls.{OnOpen, OnClosed, Asks, last_after}
use Rattle.engine_calls.specs.Keeping.{IsOfCall, ReasonOnOpen, ReasonOnClosed, ReasonOnAsking, ReasonState, reason_made}
use Rattle.engine_calls.specs.declared.last.Asked.{Asked}
use Rattle.sentences.specs.declared.reason.Reason.{Reason}
use Rattle.std.specs.declared.alloc.AllocError.{AllocError}

module _ {T : Type 0} (does : SessionState → SessionState → Result T Refusal → Type 0) where
  -- an open session did so
  pub called : (s t : SessionState) (old new : Option SessionState) (was last : Option Refusal) (outcome : Result T Refusal)
      (result : Result T Status) → old ≡ Some s → new ≡ Some t → does s t outcome → last ≡ last_after outcome was
      → result ≡ told_by outcome → OnOpen does old new was last result
  called s t old new was last outcome result before after did kept told =
      subst (λ (o : Option SessionState). OnOpen does o new was last result) (sym before) (t, outcome, after, did, kept, told)

  -- no session is open
  pub closed : (old new : Option SessionState) (was last : Option Refusal) (result : Result T Status) → old ≡ None → new ≡ None
      → last ≡ was → result ≡ Err NotOpen → OnOpen does old new was last result
  closed old new was last result before after kept told =
      subst (λ (o : Option SessionState). OnOpen does o new was last result) (sym before) (after, kept, told)

module _ {T : Type 0} (makes : Result SessionState Refusal → Type 0) where
  -- a session is open already
  pub opened_before : (s : SessionState) (old new : Option SessionState) (was last : Option Refusal) (result : Result T Status)
      → old ≡ Some s → new ≡ old → last ≡ was → result ≡ Err AlreadyOpen → OnClosed makes old new was last result
  opened_before s old new was last result before after kept told =
      subst (λ (o : Option SessionState). new ≡ o → OnClosed makes o new was last result) (sym before) (λ same. (same, kept, told)) after

  -- a session was made
  pub opened : (s : SessionState) (old new : Option SessionState) (was last : Option Refusal) (result : Result T Status) → old ≡ None
      → new ≡ Some s → makes (Ok s) → last ≡ was → IsOk result → OnClosed makes old new was last result
  opened s old new was last result before after made kept done =
      subst (λ (o : Option SessionState). OnClosed makes o new was last result) (sym before)
      (subst (λ (n : Option SessionState). OnClosed makes None n was last result) (sym after) (made, kept, done))

  -- none was made
  pub unopened : (why : Refusal) (old new : Option SessionState) (was last : Option Refusal) (result : Result T Status) → old ≡ None
      → new ≡ None → makes (Err why) → last ≡ Some why → result ≡ Err (status_of why) → OnClosed makes old new was last result
  unopened why old new was last result before after made kept told =
      subst (λ (o : Option SessionState). OnClosed makes o new was last result) (sym before)
      (subst (λ (n : Option SessionState). OnClosed makes None n was last result) (sym after) (why, made, kept, told))

module _ {T : Type 0} (tells : Held → List ℕ → T → Type 0) (refuses : Held → Refusal → Type 0) (s : SessionState)
    (now inside : Option SessionState) (there : inside ≡ Some s) (same : inside ≡ now) (was last : Option Refusal) where
  -- an open session answered, and stayed
  pub asked : (told : List ℕ) (answered : T) → last ≡ was → tells s.held told answered
      → OnOpen (Asks tells refuses told) now inside was last (Ok answered)
  asked told answered kept t =
      called (Asks tells refuses told) s s now inside was last (Ok answered) (Ok answered) (sym same ∙ there) there (refl, t) kept refl

  -- it was refused, and stayed
  pub refused : (told : List ℕ) (new : Option SessionState) (why : Refusal) (status : Status) → new ≡ now → last ≡ Some why
      → refuses s.held why → status ≡ status_of why → OnOpen (Asks tells refuses told) now new was last (Err status)
  refused told new why status stays kept r named =
      called (Asks tells refuses told) s s now new was last (Err why) (Err status) (sym same ∙ there) (stays ∙ (sym same ∙ there)) (refl, r)
      kept (ap (λ (e : Status). Err e) named)

-- what is made of a reason is of the call
is_of_call : (asked : Asked) (made : Result (Option Reason) AllocError) → IsOfCall asked (reason_made asked made)
is_of_call asked (Ok (Some reason)) = refl
is_of_call asked (Ok None) = tt
is_of_call asked (Err error) = tt

module _ (T E : Type 0) (asked : Asked) (old : Option SessionState) (was now : Option ReasonState) where
  -- which reason is kept after a call that wants a session: no session is open
  pub reason_closed : (result : Result T E) → old ≡ None → now ≡ was → ReasonOnOpen asked old was now result
  reason_closed result before kept = subst (λ (o : Option SessionState). ReasonOnOpen asked o was now result) (sym before) kept

  -- or it did so
  pub reason_called : (s : SessionState) (done : T) → old ≡ Some s → now ≡ was → ReasonOnOpen {E = E} asked old was now (Ok done)
  reason_called s done before kept =
      subst (λ (o : Option SessionState). ReasonOnOpen {E = E} asked o was now (Ok done)) (sym before) kept

  -- or it was refused
  pub reason_refused : (s : SessionState) (made : Result (Option Reason) AllocError) (error : E) → old ≡ Some s
      → now ≡ reason_made asked made → ReasonOnOpen {T = T} asked old was now (Err error)
  reason_refused s made error before told =
      subst (λ (o : Option SessionState). ReasonOnOpen {T = T} asked o was now (Err error)) (sym before)
      (subst (λ (n : Option ReasonState). IsOfCall asked n) (sym told) (is_of_call asked made))

  -- the same of one that opens a session: one is open already
  pub reason_open : (s : SessionState) (result : Result T E) → old ≡ Some s → now ≡ was → ReasonOnClosed asked old was now result
  reason_open s result before kept = subst (λ (o : Option SessionState). ReasonOnClosed asked o was now result) (sym before) kept

  -- or one was made
  pub reason_opened : (done : T) → old ≡ None → now ≡ was → ReasonOnClosed {E = E} asked old was now (Ok done)
  reason_opened done before kept =
      subst (λ (o : Option SessionState). ReasonOnClosed {E = E} asked o was now (Ok done)) (sym before) kept

  -- or none was made
  pub reason_unopened : (made : Result (Option Reason) AllocError) (error : E) → old ≡ None → now ≡ reason_made asked made
      → ReasonOnClosed {T = T} asked old was now (Err error)
  reason_unopened made error before told =
      subst (λ (o : Option SessionState). ReasonOnClosed {T = T} asked o was now (Err error)) (sym before)
      (subst (λ (n : Option ReasonState). IsOfCall asked n) (sym told) (is_of_call asked made))

module _ (T E : Type 0) (old : Option SessionState) (was now : Option ReasonState) where
  -- the same of one that asks a session
  pub unasked_reason : (result : Result T E) → old ≡ None → now ≡ was → ReasonOnAsking old was now result
  unasked_reason result before kept = subst (λ (o : Option SessionState). ReasonOnAsking o was now result) (sym before) kept

  pub asked_reason : (s : SessionState) (done : T) → old ≡ Some s → now ≡ was → ReasonOnAsking {E = E} old was now (Ok done)
  asked_reason s done before kept =
      subst (λ (o : Option SessionState). ReasonOnAsking {E = E} o was now (Ok done)) (sym before) kept

  pub refused_reason : (s : SessionState) (error : E) → old ≡ Some s → now ≡ None → ReasonOnAsking {T = T} old was now (Err error)
  refused_reason s error before none =
      subst (λ (o : Option SessionState). ReasonOnAsking {T = T} o was now (Err error)) (sym before) none
