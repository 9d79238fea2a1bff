-- A chunk is made where no other is, and blocks come and go.
use Rattle.std.proofs.Common.{◌≡◌, ◌≢◌, ℕ, ◌+◌, ◌-◌, ◌≤◌, ◌⊎◌, inl, inr, Bool, true, not, List, [], ◌∷◌, None, map, length, get_or, set}
use Rattle.std.proofs.Common.{sym, ap, ◌∙◌, subst, arith}
use Rattle.chunk_layout.proofs.Words.{IsTrue, is_some, ◌==◌, filter, word_bytes, Every, ChunkContents, IsClear, without, outside, Blocks}
use Rattle.chunk_layout.proofs.Words.{cells_of, block_at, poke, headed, read, contents_of, header_is_at, without_header, Stands, Apart}
use Rattle.chunk_layout.proofs.Words.{IsLayout}
use Rattle.chunk_layout.proofs.Words.{Place, ChunkHeader}
use Rattle.chunk_layout.proofs.Laws.{eq-eqb, ne_eqb, eqb-false, not-true, cond-true, cond-false, get_or-set_other, holds_by_set_word}
use Rattle.chunk_layout.proofs.Laws.{length-word_bytes, every_both, every_weaker, every_filter, every_passes, every_unmap, pairwise_filter}
use Rattle.chunk_layout.proofs.Laws.{map_same, filter_map_same, without-header, nat_tests, common_steps}
use Rattle.chunk_layout.proofs.Pokes.{poke-here, chunk-poke, stands-poke}

-- a chunk whose block is the same stands there as before
module _ (bs after : Blocks) (head : ℕ) where
  -- where the blocks of all chunks are the same
  module _ (ss : List ChunkHeader) (same : Every (λ (s : ChunkHeader). get_or after s.place.block None ≡ get_or bs s.place.block None)
      ss) where
    pub laid-same : IsLayout head bs ss → IsLayout head after ss
    laid-same laid = grind (arith, nat_tests, every_both)

    pub contents-same : map (contents_of after) ss ≡ map (contents_of bs) ss
    contents-same = grind (arith, nat_tests, map_same, contents_of, every_weaker, read, cells_of)

-- fewer chunks
pub laid-fewer : (bs : Blocks) (head : ℕ) (test : ChunkHeader → Bool) (ss : List ChunkHeader) → IsLayout head bs ss
    → IsLayout head bs (filter test ss)
laid-fewer bs head test ss laid = grind (arith, nat_tests, every_filter, pairwise_filter)

-- a block is freed with its chunks
module _ (bs : Blocks) (head b : ℕ) (ss : List ChunkHeader) where
  abbrev rest : List ChunkHeader
  rest = filter (λ s. not (s.place.block == b)) ss

  same-rest : Every (λ (s : ChunkHeader). get_or (set bs b None) s.place.block None ≡ get_or bs s.place.block None) rest
  same-rest = grind (arith, nat_tests, every_weaker, not, get_or-set_other, eqb-false, not-true, every_passes)

  pub laid-dropped : IsLayout head bs ss → IsLayout head (set bs b None) rest
  laid-dropped laid = laid-same bs (set bs b None) head rest same-rest (laid-fewer bs head (λ s. not (s.place.block == b)) ss laid)

  pub contents-dropped : map (contents_of (set bs b None)) rest ≡ outside (map (contents_of bs) ss) b
  contents-dropped = contents-same bs (set bs b None) head rest same-rest ∙ filter_map_same (λ (p : ChunkContents). not
      (p.place.block == b))
      (contents_of bs) ss

-- a new chunk
module _ (head : ℕ) (bs : Blocks) (ss : List ChunkHeader) (laid : IsLayout head bs ss) (place : Place) (room : ℕ)
    (some : IsTrue (is_some (get_or bs place.block None)))
    (after : head ≤ place.offset) (inside : place.offset + room ≤ length (block_at bs place.block))
    (clear : Every (IsClear head place room) (map (contents_of bs) ss)) where
  abbrev bs' : Blocks
  bs' = headed head bs place room

  abbrev x : ChunkHeader
  x = record { place = place; room = room; len = 0; is_live = true }

  clear' : Every (λ (s : ChunkHeader). IsClear head place room (contents_of bs s)) ss
  clear' = every_unmap (IsClear head place room) (contents_of bs) ss clear

  -- the blocks where there is a header, and where there is none
  abbrev poked : Blocks
  poked = poke bs place.block (place.offset - 8) (word_bytes room)

  with-header : head ≡ 8 → bs' ≡ poked
  with-header eight = cond-true (head == 8) poked bs (eq-eqb head 8 eight)

  no-header : head ≡ 0 → bs' ≡ bs
  no-header none = cond-false (head == 8) poked bs (ne_eqb head 8 (λ e. absurd (omega (arith, e, none))))

  fits : head ≡ 8 → place.offset - 8 + length (word_bytes room) ≤ length (block_at bs place.block)
  fits eight = omega (arith, length-word_bytes room, after, inside, eight)

  untouched : head ≡ 8 → (s : ChunkHeader) → IsClear head place room (contents_of bs s) → (s.place.block ≢ place.block)
      ⊎ ((s.place.offset + s.room ≤ place.offset - 8) ⊎ (place.offset - 8 + length (word_bytes room) + head ≤ s.place.offset))
  untouched eight s v2 = grind (arith, nat_tests, length-word_bytes)

  stands-carved : (s : ChunkHeader) → Stands head bs s → IsClear head place room (contents_of bs s) → Stands head bs' s
  stands-carved s h away = elim laid.header [
    | inl none ↦ subst (λ (z : Blocks). Stands head z s) (sym (no-header none)) h
    | inr eight ↦ subst (λ (z : Blocks). Stands head z s) (sym (with-header eight))
        (stands-poke bs place.block (place.offset - 8) (word_bytes room) some head (fits eight) s h (untouched eight s away))
  ]

  chunk-carved : (s : ChunkHeader) → Stands head bs s → IsClear head place room (contents_of bs s) → contents_of bs' s ≡ contents_of bs s
  chunk-carved s h away = elim laid.header [
    | inl none ↦ ap (λ (z : Blocks). contents_of z s) (no-header none)
    | inr eight ↦ ap (λ (z : Blocks). contents_of z s) (with-header eight) ∙ chunk-poke bs place.block (place.offset - 8) (word_bytes room)
        some head (fits eight) s h (untouched eight s away)
  ]

  still-some : IsTrue (is_some (get_or bs' place.block None))
  still-some = grind (arith, nat_tests, common_steps)

  stands-new : Stands head bs' x
  stands-new = grind (arith, nat_tests, common_steps, still-some, fits, with-header, poke-here, holds_by_set_word)

  clear-apart : (s : ChunkHeader) → IsClear head place room (contents_of bs s) → Apart head x s
  clear-apart s v1 = grind (arith, nat_tests)

  abbrev keeps : ChunkHeader → Bool
  keeps s = not (header_is_at place s)

  pub laid-carved : IsLayout head bs' (x ∷ without_header ss place)
  laid-carved = record {
    header = laid.header;
    stand = (
      stands-new,
      every_filter (Stands head bs') keeps ss
          (every_both (Stands head bs) (λ (s : ChunkHeader). IsClear head place room (contents_of bs s)) (Stands head bs') stands-carved ss
          laid.stand clear'),
    );
    apart = grind (arith, nat_tests, every_filter, every_weaker, clear-apart, clear', pairwise_filter);
  }

  pub contents-carved : map (contents_of bs') (x ∷ without_header ss place) ≡
      (record { place = place; room = room; is_live = true; bytes = [] })
      ∷ without (map (contents_of bs) ss) place
  contents-carved = grind (
    arith,
    nat_tests,
    map_same (contents_of bs') (contents_of bs) (without_header ss place),
    every_filter
        (λ (s : ChunkHeader). contents_of bs' s ≡ contents_of bs s) keeps ss,
    every_both (Stands head bs)
        (λ (s : ChunkHeader). IsClear head place room (contents_of bs s)) (λ (s : ChunkHeader). contents_of bs' s ≡ contents_of bs s),
    chunk-carved,
    clear',
    without-header bs ss place,
  )
