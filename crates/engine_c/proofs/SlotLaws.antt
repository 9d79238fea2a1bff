-- What the exports do to slots that are empty, and to those that stay as they are.
use Rattle.std.specs.Prelude.{◌≡◌, ℕ, List, Option, Some, None, Result, Ok, Err, IfOk, OnErr, refl}
use Rattle.std.proofs.Common.{ap, subst, sym, ◌∙◌}
use Rattle.engine.specs.Calls.{Held, Refusal}
use Rattle.engine.specs.Sessions.{SessionState}
use Rattle.engine.specs.Statuses.{number_told, status_number}
use Rattle.engine.specs.declared.status.Status.{Status}
use Rattle.engine.specs.declared.status.Status.TheVariants as says
use Rattle.engine_calls.specs.Calls.{OnSession, Asks, MergesWith}
use Rattle.engine_calls.specs.Keeping.{KeptState, Unchanged, nothing}
use Rattle.engine_calls.specs.declared.last.Asked.{Asked}
use Rattle.engine_c.specs.Exports.{kept_by, AsksSlot, CallsSlot, KeepsReason, MergesReason}

-- nothing is merged where a side has no session
pub merges_into_none : (other : Option SessionState) → MergesWith {T = Unit {0}} other nothing nothing (Err says.NotOpen)
merges_into_none None = (refl, refl, refl)
merges_into_none (Some s) = (refl, refl, refl)

merges_none : (other : Option SessionState) (own : KeptState) → other ≡ None → MergesWith {T = Unit {0}} other own own (Err says.NotOpen)
merges_none other own e =
    subst (λ (o : Option SessionState). MergesWith {T = Unit {0}} o own own (Err says.NotOpen)) (sym e) (refl, refl, refl)

-- and the reason stays
pub reasons_of_none : (other : Option SessionState) → MergesReason {T = Unit {0}} other nothing nothing (Err says.NotOpen)
reasons_of_none None = refl
reasons_of_none (Some s) = refl

reasons_none : (other : Option SessionState) (own : KeptState) → other ≡ None → MergesReason {T = Unit {0}} other own own (Err says.NotOpen)
reasons_none other own e =
    subst (λ (o : Option SessionState). MergesReason {T = Unit {0}} o own own (Err says.NotOpen)) (sym e) refl

-- what stays equal is unchanged
pub stays : (old new : KeptState) → new ≡ old → Unchanged old new
stays old new e = record { session = ap (λ (x : KeptState). x.session) e; told = ap (λ (x : KeptState). x.told) e }

module _ {T : Type 0} (does keeps : (old new : KeptState) → Result T Status → Type 0) (gives : T → Type 0) where
  -- a slot that kept this, and keeps it still
  still : (k : KeptState) (old new : Option KeptState) (status : Status) (number : ℕ) → kept_by old ≡ k → kept_by new ≡ k
      → does k k (Err status) → keeps k k (Err status) → number ≡ status_number status → CallsSlot does keeps gives old new number
  still k old new status number before after calls reasoned ended =
      let same = after ∙ sym before in
      record {
        outcome = Err status;
        calls = subst (λ (x : KeptState). does x (kept_by new) (Err status)) (sym before)
            (subst (λ (x : KeptState). does k x (Err status)) (sym after) calls);
        reasoned = subst (λ (x : KeptState). keeps x (kept_by new) (Err status)) (sym before)
            (subst (λ (x : KeptState). keeps k x (Err status)) (sym after) reasoned);
        ended = ended;
        given = tt;
        told = ap (λ (x : KeptState). x.told) same;
        same = stays (kept_by old) (kept_by new) same;
      }

  -- a slot that stays empty keeps nothing, before and after
  pub empty_slot : (old new : Option KeptState) (status : Status) (number : ℕ) → old ≡ None → new ≡ None → does nothing nothing (Err status)
      → keeps nothing nothing (Err status) → number ≡ status_number status → CallsSlot does keeps gives old new number
  empty_slot old new status number was is calls reasoned ended =
      still nothing old new status number (ap kept_by was) (ap kept_by is) calls reasoned ended

  -- a full slot is filled with what it kept
  full_slot : (k : KeptState) (old new : Option KeptState) (status : Status) (number : ℕ) → old ≡ Some k → new ≡ Some k
      → does k k (Err status) → keeps k k (Err status) → number ≡ status_number status → CallsSlot does keeps gives old new number
  full_slot k old new status number was is calls reasoned ended =
      still k old new status number (ap kept_by was) (ap kept_by is) calls reasoned ended

-- an empty slot has no session that does anything
pub closed_slot : {T : Type 0} (does : SessionState → SessionState → Result T Refusal → Type 0) (asked : Asked) (gives : T → Type 0)
    (old new : Option KeptState) (number : ℕ) → old ≡ None → new ≡ None → number ≡ status_number says.NotOpen
    → CallsSlot (OnSession does) (KeepsReason asked) gives old new number
closed_slot does asked gives old new number was is ended =
    empty_slot (OnSession does) (KeepsReason asked) gives old new says.NotOpen number was is (refl, refl, refl) refl ended

-- a slot stays, where the other one is empty
pub unmerged_slot : (k : KeptState) (old new from : Option KeptState) (gives : Unit {0} → Type 0) (number : ℕ) → old ≡ Some k → new ≡ Some k
    → from ≡ None → number ≡ status_number says.NotOpen
    → CallsSlot (MergesWith {T = Unit {0}} (kept_by from).session) (MergesReason (kept_by from).session) gives old new number
unmerged_slot k old new from gives number was is none ended =
    let closed = ap (λ (x : Option KeptState). (kept_by x).session) none in
    full_slot (MergesWith (kept_by from).session) (MergesReason (kept_by from).session) gives k old new says.NotOpen number was is
    (merges_none (kept_by from).session k closed) (reasons_none (kept_by from).session k closed) ended

-- an empty slot has no session that is asked
pub unasked_slot : {T : Type 0} (tells : Held → List ℕ → T → Type 0) (refuses : Held → Refusal → Type 0)
    (keeps : (old new : KeptState) → Result T Status → Type 0) (gives : T → Type 0)
    (old new : Option KeptState) (wanted number : ℕ) → old ≡ None → new ≡ None → keeps nothing nothing (Err says.NotOpen)
    → number ≡ status_number says.NotOpen → AsksSlot tells refuses keeps gives old new wanted number
unasked_slot tells refuses keeps gives old new wanted number was is reasoned ended =
    let before = ap kept_by was in let after = ap kept_by is in
    record {
      outcome = Err says.NotOpen;
      asks = subst (λ (x : KeptState). OnSession (Asks tells refuses (kept_by new).told) x (kept_by new) (Err says.NotOpen))
          (sym before) (subst (λ (x : KeptState). OnSession (Asks tells refuses (kept_by new).told) nothing x (Err says.NotOpen))
          (sym after) (refl, refl, refl));
      reasoned = subst (λ (x : KeptState). keeps x (kept_by new) (Err says.NotOpen)) (sym before)
          (subst (λ (x : KeptState). keeps nothing x (Err says.NotOpen)) (sym after) reasoned);
      ended = ended;
      given = tt;
      long = tt;
      same = stays (kept_by old) (kept_by new) (after ∙ sym before);
    }
