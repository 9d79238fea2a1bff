-- Laws: the chunk at a place; these definitions serve the laws alone.
use Rattle.std.proofs.Common.{◌≡◌, ℕ, inl, inr, Bool, true, false, not, List, [], ◌∷◌, map, cond, refl, sym, ◌∙◌, arith}
use Rattle.std.specs.Prelude.{◌||◌, ◌==◌}
use Rattle.std.proofs.lemmas.Bool.{and_from, eq-eqb}
use Rattle.chunk_layout.specs.Every.{Every, Pairwise}
use Rattle.chunk_layout.specs.Contents.{ChunkContents, same_place, is_at, has, contents_at, no_contents, without}
use Rattle.chunk_layout.specs.ChunkHeaders.{Blocks, header_is_at, no_header, has_header, header_at, without_header, contents_of, Stands}
use Rattle.chunk_layout.specs.ChunkHeaders.{Apart}
use Rattle.chunk_layout.specs.declared.place.Place.{Place}
use Rattle.chunk_layout.specs.declared.place.ChunkHeader.{ChunkHeader}
use Rattle.chunk_layout.specs.ListLaws.{first_has, first_passes, first_map, any_map, filter_map_same, every_weaker, every_filter}
use Rattle.std.proofs.lemmas.Bool.Decides.{nat_tests}
use Rattle.std.proofs.lemmas.Grind.{common_steps}

pub same-place : (p q : Place) → same_place p q ≡ true → p ≡ q
same-place p q same = grind (arith, nat_tests, common_steps)

pub place-same : (p : Place) → same_place p p ≡ true
place-same p = and_from (p.block == p.block) (p.offset == p.offset) (eq-eqb p.block p.block refl) (eq-eqb p.offset p.offset refl)

pub apart-sym : (head : ℕ) (s t : ChunkHeader) → Apart head s t → Apart head t s
apart-sym head s t (inl ne) = inl (λ e. ne (sym e))
apart-sym head s t (inr (inl before)) = inr (inr before)
apart-sym head s t (inr (inr behind)) = inr (inl behind)

-- all others are apart from the chunk at a place
pub apart-found : (head : ℕ) (ss : List ChunkHeader) (place : Place) → has_header ss place ≡ true → Pairwise (Apart head) ss
    → Every (λ s. Apart head s (header_at ss place)) (without_header ss place)
apart-found head [] place some pairs = tt
apart-found head (s ∷ ss) place some pairs =
    let Goal : Bool → Type 0 = λ b. ((b || has_header ss place) ≡ true)
    → Every (λ (x : ChunkHeader). Apart head x (cond b s (header_at ss place)))
    (cond (not b) (s ∷ without_header ss place) (without_header ss place)) in
    (elim (header_is_at place s) as Goal [
      | true ↦ λ _. every_filter (λ (x : ChunkHeader). Apart head x s) (λ (x : ChunkHeader). not (header_is_at place x)) ss
          (every_weaker (Apart head s) (λ (x : ChunkHeader). Apart head x s) (apart-sym head s) ss pairs.0)
      | false ↦ λ there. (first_has (Apart head s) (header_is_at place) no_header ss there pairs.0, apart-found head ss place there pairs.1)
    ]) some

-- the same, of the contents of the chunks that the headers are of
module _ (bs : Blocks) (ss : List ChunkHeader) (place : Place) where
  abbrev contents : List ChunkContents
  contents = map (contents_of bs) ss

  pub has-header : has contents place ≡ has_header ss place
  has-header = any_map (is_at place) (contents_of bs) ss

  pub without-header : map (contents_of bs) (without_header ss place) ≡ without contents place
  without-header = filter_map_same (λ (p : ChunkContents). not (is_at place p)) (contents_of bs) ss

  module _ (some : has contents place ≡ true) where
    pub some-header : has_header ss place ≡ true
    some-header = sym has-header ∙ some

    pub found-place : (header_at ss place).place ≡ place
    found-place = same-place (header_at ss place).place place (first_passes (header_is_at place) no_header ss some-header)

    pub contents-found : contents_at contents place ≡ contents_of bs (header_at ss place)
    contents-found = first_map (is_at place) (contents_of bs) no_header no_contents ss some

    pub found-stands : (head : ℕ) → Every (Stands head bs) ss → Stands head bs (header_at ss place)
    found-stands head stand = first_has (Stands head bs) (header_is_at place) no_header ss some-header stand
