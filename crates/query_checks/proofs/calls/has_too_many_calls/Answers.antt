use Rattle.std.proofs.Common.{◌≡◌, ◌<◌, ◌++◌, String, Global, Bor, ap, sym, ◌∙◌, length, subst, refl}
use Rattle.std.proofs.Math.Dec.{ltb}
use Rattle.std.proofs.lemmas.List.{length-map}
use Rattle.std.specs.Str.{bytes_eq}
use Rattle.std.specs.String.{string_eq}
use Rattle.grouping_model.specs.declared.limits.TheConstants.{MAX_CALLS}
use Rattle.query_checks.specs.declared.condition.AggCall.{AggCall}
use Rattle.query_checks.specs.Forms.{call_form, call_forms, written_of}
use Rattle.query_checks.specs.Sameness.{form_eq, first_of_each}
use Rattle.query_checks.specs.Calls.{distinct_calls}
use Rattle.query_checks.proofs.DistinctLaws.{distinct_mapped, images_longer, exceeds}
use Rattle.query_checks.proofs.CountLaws.{item_calls, clause_calls, calls_counted}
use Rattle.query_checks.proofs.calls.has_too_many_calls.Goals as goal

pub returns : goal.returns
returns c =
    let raw = c.args.raw.now in
    let found = c.in_ok-found.found.items in
    let calls = c.deref-2.result.now in
    let counted : length (first_of_each (form_eq string_eq) (call_forms calls)) ≡ length (distinct_calls bytes_eq (written_of raw)) =
    ap (λ forms. length (first_of_each (form_eq string_eq) forms)) (ap call_forms c.deref-2.ensures.value ∙ c.in_ok-calls.ensures
    ∙ ap (λ items. item_calls items ++ clause_calls raw.having) c.deref.ensures.value)
    ∙ calls_counted raw in
    ap (ltb MAX_CALLS) (c.len.ensures ∙ c.in_ok-found.found.ok.0)
    ∙ exceeds MAX_CALLS (length found) (length (distinct_calls bytes_eq (written_of raw))) (ltb MAX_CALLS (length found)) refl
    (λ few. sym (length-map found (λ (call : Bor (AggCall (String Global))). call_form call.now))
    ∙ ap length (ap call_forms (c.in_ok-found.ensures.all few)
    ∙ distinct_mapped (form_eq string_eq) (λ (call : Bor (AggCall (String Global))). call_form call.now) calls) ∙ counted)
    (λ many. subst (λ n. MAX_CALLS < n) counted
    (images_longer (form_eq string_eq) (λ (call : Bor (AggCall (String Global))). call_form call.now) calls MAX_CALLS
    (c.in_ok-found.ensures.more many)))
