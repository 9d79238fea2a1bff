use Rattle.std.specs.Prelude.{◌≡◌, refl, ◌<◌, length, map, Some, option_map, slice_get, string_bytes}
use Rattle.std.proofs.Common.{sym, ◌∙◌, ap, subst}
use Rattle.std.proofs.lemmas.List.{length-map}
use Rattle.std.proofs.lemmas.Option.{slice_get-map, slice_get_read}
use Rattle.having_filter.specs.Kept.{headers}
use Rattle.having_filter.proofs.query.Query.header.Goals as goal

pub returns : goal.returns
returns c =
    let labels = c.deref.result.now.texts.labels.items in
    let item = c.args.item in
    let labelled : map string_bytes labels ≡ headers c.args.self.now = (λ i. map string_bytes (c.deref.ensures i).texts.labels.items)
    ∙ c.self.invariant.labelled ∙ ap headers c.self.view_is in
    let long : length c.args.self.now.written.items ≡ length labels = sym (sym (length-map labels string_bytes) ∙ ap length labelled
    ∙ length-map _ _ ∙ length-map _ _) in
    ap (λ names. slice_get names item) (sym labelled) ∙ slice_get-map string_bytes labels item
    ∙ ap (option_map string_bytes) (slice_get_read labels (length labels) item c.index.result.now refl
    (subst (λ n. item < n) long c.requires) c.index.ensures)
    ∙ ap Some (sym c.as_str.ensures.value)
