use Rattle.std.proofs.Common.{◌<◌, ℕ, List, Bor, ap, ◌∙◌, length, subst}
use Rattle.std.specs.Str.{bytes_eq}
use Rattle.grouping_model.specs.declared.limits.TheConstants.{MAX_KEYS}
use Rattle.packed_rows.specs.View.{texts_of}
use Rattle.query_checks.specs.Sameness.{first_of_each}
use Rattle.query_checks.proofs.DistinctLaws.{distinct_mapped, images_longer}
use Rattle.query_checks.proofs.limits.distinct_names.Goals as goal

pub returns : goal.returns
returns c = record {
  all =
      λ few.
      ap texts_of (c.in_ok-found.ensures.all few) ∙ distinct_mapped bytes_eq (λ (name : Bor (List ℕ)). name.now) c.deref.result.now
      ∙ ap (λ names. first_of_each bytes_eq (texts_of names)) c.deref.ensures.value ∙ ap (first_of_each bytes_eq) c.in_ok-borrowed.ensures;
  more =
      λ many.
      subst (λ (names : List (List ℕ)). MAX_KEYS < length (first_of_each bytes_eq names)) (ap texts_of c.deref.ensures.value
      ∙ c.in_ok-borrowed.ensures)
      (images_longer bytes_eq (λ (name : Bor (List ℕ)). name.now) c.deref.result.now MAX_KEYS (c.in_ok-found.ensures.more many));
}
