-- Laws of chunks by their places; nothing here is a definition.
use Rattle.std.proofs.Common.{◌≡◌, Bool, true, false, not, List, [], ◌∷◌, cond, refl, sym, ap, ◌∙◌, inl, inr, arith}
use Rattle.std.specs.Prelude.{◌||◌}
use Rattle.std.proofs.lemmas.Bool.{cases_Bool, cond-true, cond-false, not_from_true, not_from_false, or_parts}
use Rattle.chunk_layout.specs.Contents.{ChunkContents, same_place, is_at, has, contents_at, without}
use Rattle.chunk_layout.specs.declared.place.Place.{Place}
use Rattle.chunk_layout.specs.FindingLaws.{same-place}
use Rattle.std.proofs.lemmas.Bool.Decides.{nat_tests}
use Rattle.std.proofs.lemmas.Grind.{common_steps}

pub same_place-sym : (p q : Place) → same_place p q ≡ same_place q p
same_place-sym p q = grind (arith, nat_tests, common_steps)

-- a chunk is at one place alone
pub other-place : (p : ChunkContents) (a b : Place) → is_at a p ≡ true → same_place a b ≡ false → is_at b p ≡ false
other-place p a b here ne = ap (λ (q : Place). same_place q b) (same-place p.place a here) ∙ ne

module _ (p : ChunkContents) (ps : List ChunkContents) where
  pub has-first : (place : Place) → is_at place p ≡ true → has (p ∷ ps) place ≡ true
  has-first place here = ap (λ (b : Bool). b || has ps place) here

  pub contents_at-first : (place : Place) → is_at place p ≡ true → contents_at (p ∷ ps) place ≡ p
  contents_at-first place here = cond-true (is_at place p) p (contents_at ps place) here

  pub without-first : (place : Place) → is_at place p ≡ true → without (p ∷ ps) place ≡ without ps place
  without-first place here = cond-false (not (is_at place p)) (p ∷ without ps place) (without ps place) (not_from_true (is_at place p) here)

  pub has-later : (place : Place) → is_at place p ≡ false → has (p ∷ ps) place ≡ has ps place
  has-later place there = ap (λ (b : Bool). b || has ps place) there

  pub contents_at-later : (place : Place) → is_at place p ≡ false → contents_at (p ∷ ps) place ≡ contents_at ps place
  contents_at-later place there = cond-false (is_at place p) p (contents_at ps place) there

  pub without-later : (place : Place) → is_at place p ≡ false → without (p ∷ ps) place ≡ p ∷ without ps place
  without-later place there = cond-true (not (is_at place p)) (p ∷ without ps place) (without ps place)
      (not_from_false (is_at place p) there)

-- the chunks without one have all others
pub has-without : (ps : List ChunkContents) (place other : Place) → same_place place other ≡ false → has (without ps place) other
    ≡ has ps other
has-without [] place other ne = refl
has-without (p ∷ ps) place other ne = elim (cases_Bool (is_at place p)) [
  | inl here ↦ ap (λ (t : List ChunkContents). has t other) (without-first p ps place here) ∙ has-without ps place other ne
      ∙ sym (has-later p ps other (other-place p place other here ne))
  | inr there ↦ ap (λ (t : List ChunkContents). has t other) (without-later p ps place there)
      ∙ ap (λ (b : Bool). is_at other p || b) (has-without ps place other ne)
]

pub contents_at-without : (ps : List ChunkContents) (place other : Place) → same_place place other ≡ false → contents_at
    (without ps place) other
    ≡ contents_at ps other
contents_at-without [] place other ne = refl
contents_at-without (p ∷ ps) place other ne = elim (cases_Bool (is_at place p)) [
  | inl here ↦ ap (λ (t : List ChunkContents). contents_at t other) (without-first p ps place here) ∙ contents_at-without ps place other ne
      ∙ sym (contents_at-later p ps other (other-place p place other here ne))
  | inr there ↦ ap (λ (t : List ChunkContents). contents_at t other) (without-later p ps place there)
      ∙ ap (λ (q : ChunkContents). cond (is_at other p) p q) (contents_at-without ps place other ne)
]

pub has_not-without : (ps : List ChunkContents) (place : Place) → has (without ps place) place ≡ false
has_not-without [] place = refl
has_not-without (p ∷ ps) place = elim (cases_Bool (is_at place p)) [
  | inl here ↦ ap (λ (t : List ChunkContents). has t place) (without-first p ps place here) ∙ has_not-without ps place
  | inr there ↦ ap (λ (t : List ChunkContents). has t place) (without-later p ps place there) ∙ has-later p (without ps place) place there
      ∙ has_not-without ps place
]

-- where there is no chunk, none is left out
pub without-none : (ps : List ChunkContents) (place : Place) → has ps place ≡ false → without ps place ≡ ps
without-none [] place none = refl
without-none (p ∷ ps) place none = let parts = or_parts (is_at place p) (has ps place) none in
    without-later p ps place parts.0 ∙ ap (λ (t : List ChunkContents). p ∷ t) (without-none ps place parts.1)

pub without-twice : (ps : List ChunkContents) (place : Place) → without (without ps place) place ≡ without ps place
without-twice ps place = without-none (without ps place) place (has_not-without ps place)
