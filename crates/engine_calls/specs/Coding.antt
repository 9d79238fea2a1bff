-- What is kept as plain parts, which tell two of them apart. All of this is our own.
use mathlib.Core.Path.{refl}
use base.Stored.{Coded}
use Rattle.std.specs.Prelude.{ℕ, List, Option}
use Rattle.std.specs.Coded.{code_by, coded×, coded_list, coded_option, coded_ℕ}
use Rattle.refusals.specs.contracts.refusal.Refusal as refusal
use Rattle.engine.specs.Calls.{Refusal}
use Rattle.engine.specs.Coding.{coded_session}
use Rattle.engine.specs.Sessions.{SessionState}
use Rattle.engine_calls.specs.contracts.last.Asked as asked
use Rattle.engine_calls.specs.declared.last.Asked.{Asked}
use Rattle.engine_calls.specs.Keeping.{KeptState, ReasonState}

abbrev pub coded_reason : Coded ReasonState
coded_reason =
    code_by (Asked × List ℕ) (coded× asked.the_row.coded (coded_list coded_ℕ)) (λ r. (r.asked, r.text))
    (λ p. record { asked = p.0; text = p.1 }) (λ _. refl)

abbrev pub coded_kept : Coded KeptState
coded_kept =
    code_by (Option SessionState × (List ℕ × (Option Refusal × Option ReasonState)))
    (coded× (coded_option coded_session)
    (coded× (coded_list coded_ℕ) (coded× (coded_option refusal.the_row.coded) (coded_option coded_reason))))
    (λ k. (k.session, (k.told, (k.why, k.reason))))
    (λ p. record { session = p.0; told = p.1.0; why = p.1.1.0; reason = p.1.1.1 }) (λ _. refl)
