use Rattle.std.proofs.Common.{◌==◌, ◌++◌, ◌≤◌, ℕ, Bor, ap, sym, ◌∙◌, length, subst, refl}
use Rattle.std.proofs.Math.Dec.{ltb}
use Rattle.query_checks.specs.declared.condition.AggCall.{AggCall}
use Rattle.query_checks.specs.Forms.{call_form, call_forms}
use Rattle.query_checks.specs.Sameness.{form_eq, first_of_each}
use Rattle.query_checks.proofs.DistinctLaws.{distinct_mapped, no_more, never_more}
use Rattle.query_checks.proofs.CountLaws.{item_calls, clause_calls, calls_of_parts}
use Rattle.query_checks.proofs.parts.Parts.calls.Goals as goal

pub returns : goal.returns
returns c =
    let parts = c.args.self.now in
    let found = c.in_ok-found.found.items in
    let calls = c.deref-2.result.now in
    let most = c.len.result in
    let same = λ (call other : Bor (AggCall ℕ)). form_eq ◌==◌ (call_form call.now) (call_form other.now) in
    let long = sym (c.len.ensures ∙ c.in_ok-calls.calls.ok.0 ∙ ap length (sym c.deref-2.ensures.value)) in
    let few = never_more most (length found) (length (first_of_each same calls)) (ltb most (length found)) refl
    (subst (λ n. length (first_of_each same calls) ≤ n) long (no_more same calls)) c.in_ok-found.ensures.more in
    ap call_forms (c.in_ok-found.ensures.all few) ∙ distinct_mapped (form_eq ◌==◌) (λ (call : Bor (AggCall ℕ)). call_form call.now) calls
    ∙ ap (first_of_each (form_eq ◌==◌)) (ap call_forms c.deref-2.ensures.value ∙ c.in_ok-calls.ensures
    ∙ ap (λ items. item_calls items ++ clause_calls parts.having) c.deref.ensures.value)
    ∙ calls_of_parts parts
