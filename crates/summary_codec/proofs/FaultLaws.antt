-- Errors that are handed on.
use Rattle.std.proofs.Common.{◌≡◌, IfErr, Result, Ok, Err, sym, subst}
use Rattle.std.specs.Result.{IsErrAnd}
use Rattle.summary_codec.specs.declared.error.SummaryError.{SummaryError}

pub handed_on : {T : Type 0} (result : Result T SummaryError) (e : SummaryError) (Q : SummaryError → Type 0) → IsErrAnd result (λ x. x ≡ e)
    → Q e → IfErr result Q
handed_on (Ok x) e Q failed q = absurd failed
handed_on (Err x) e Q failed q = subst Q (sym failed) q

-- what is said of an error says something else
pub says : {T : Type 0} (result : Result T SummaryError) (P Q : SummaryError → Type 0) → IfErr result P → ((e : SummaryError) → P e → Q e)
    → IfErr result Q
says (Ok x) P Q all gives = tt
says (Err e) P Q one gives = gives e one
