-- States of an `AllocSet` after one change and another.
use Rattle.std.proofs.Common.{◌≡◌, ℕ, ◌-◌, Bool, true, false, List, [], ◌∷◌, length, refl, ap, ◌∙◌, arith}
use Rattle.chunk_contexts.proofs.Words.{ChunkContents, same_place, place_of, has, contents_at, without, resized, Place, ChunkName, bytes_of}
use Rattle.chunk_contexts.proofs.Words.{IsResized}
use Rattle.chunk_contexts.proofs.Laws.{length-zeros, place-same, same_place-sym, has-first, contents_at-first, without-first, has-later}
use Rattle.chunk_contexts.proofs.Laws.{contents_at-later, without-none, has-without, contents_at-without, has_not-without, common_steps}
use Rattle.chunk_contexts.proofs.Laws.{nat_tests}
use Rattle.chunk_contexts.proofs.Content.{apart-places}
use Rattle.chunk_contexts.specs.Set.{SetState, set_taken, taken_by, set_put}

-- ---- a request is served
chunks-by : (a b c : Bool) (s : SetState) (p : ChunkContents) → (taken_by a b c s p).chunks ≡ p ∷ s.chunks
chunks-by false b c s p = refl
chunks-by true true c s p = refl
chunks-by true false true s p = refl
chunks-by true false false s p = refl

pub taken-chunks : (s : SetState) (n : ℕ) (p : ChunkContents) → (set_taken s n p).chunks ≡ p ∷ s.chunks
taken-chunks s n p = chunks-by _ _ _ s p

-- and other bytes are written to its chunk
pub put-taken : (s : SetState) (n : ℕ) (place : Place) (room : ℕ) (xs ys : List ℕ) → has s.chunks place ≡ false
    → set_put (set_taken s n (record { place = place; room = room; is_live = true; bytes = xs })) place ys
    ≡ set_taken s n (record { place = place; room = room; is_live = true; bytes = ys })
put-taken s n place room xs ys none = grind (
  arith,
  nat_tests,
  taken-chunks s n,
  contents_at-first,
  place-same place,
  without-first,
  without-none s.chunks place none,
)

-- ---- bytes of another length
pub length-resized : (bytes : List ℕ) (n : ℕ) → length (resized bytes n) ≡ n
length-resized bytes n = grind (arith, nat_tests, common_steps, length-zeros (n - length bytes))

-- a chunk stays where it is
pub resized-stays : (before : List ChunkContents) (name new : ChunkName) (n room : ℕ) → place_of new ≡ place_of name → new.len ≡ n
    → IsResized before ((record { place = place_of name; room = room; is_live = true; bytes = resized (bytes_of before name) n })
    ∷ without before (place_of name)) name new n
resized-stays before name new n room same len = grind (
  arith,
  nat_tests,
  common_steps,
  length-resized (bytes_of before name) n,
  has-without
      before (place_of name),
  contents_at-without before (place_of name),
)

-- a chunk moves
pub resized-moved : (before : List ChunkContents) (name new : ChunkName) (n room : ℕ) → has before (place_of name) ≡ true
    → has before (place_of new) ≡ false → new.len ≡ n
    → IsResized before (without ((record { place = place_of new; room = room; is_live = true; bytes = resized (bytes_of before name) n })
    ∷ before) (place_of name)) name new n
resized-moved before name new n room there none len = grind (
  arith,
  nat_tests,
  common_steps,
  length-resized (bytes_of before name) n,
  has-without before (place_of name),
  contents_at-without before (place_of name),
  has_not-without before (place_of name),
)

-- ---- a chunk is made, and gets the bytes of another
module _ (s t u : SetState) (n : ℕ) (place from : Place) (room : ℕ) (there : has s.chunks from ≡ true) (none : has s.chunks place
    ≡ false) (made : t ≡ set_taken s n (record { place = place; room = room; is_live = true; bytes = [] })) where
  made-chunks : t.chunks ≡ (record { place = place; room = room; is_live = true; bytes = [] }) ∷ s.chunks
  made-chunks = ap (λ (z : SetState). z.chunks) made ∙ taken-chunks s n (record { place = place; room = room; is_live = true; bytes = [] })

  pub made-apart : same_place from place ≡ false
  made-apart = apart-places s.chunks from place there none

  away : same_place place from ≡ false
  away = same_place-sym place from ∙ made-apart

  pub made-from : has t.chunks from ≡ true
  made-from = ap (λ (cs : List ChunkContents). has cs from) made-chunks
      ∙ has-later (record { place = place; room = room; is_live = true; bytes = [] }) s.chunks from away ∙ there

  pub made-source : contents_at t.chunks from ≡ contents_at s.chunks from
  made-source = ap (λ (cs : List ChunkContents). contents_at cs from) made-chunks
      ∙ contents_at-later (record { place = place; room = room; is_live = true; bytes = [] }) s.chunks from away

  pub made-there : has t.chunks place ≡ true
  made-there = ap (λ (cs : List ChunkContents). has cs place) made-chunks
      ∙ has-first (record { place = place; room = room; is_live = true; bytes = [] }) s.chunks place (place-same place)

  pub made-contents : contents_at t.chunks place ≡ record { place = place; room = room; is_live = true; bytes = [] }
  made-contents = ap (λ (cs : List ChunkContents). contents_at cs place) made-chunks
      ∙ contents_at-first (record { place = place; room = room; is_live = true; bytes = [] }) s.chunks place (place-same place)

  module _ (len : ℕ) (filled : u ≡ set_put t place (resized (contents_at t.chunks from).bytes len)) where
    abbrev p : ChunkContents
    p = record { place = place; room = room; is_live = true; bytes = resized (contents_at s.chunks from).bytes len }

    pub filled-is : u ≡ set_taken s n p
    filled-is = filled ∙ ap (λ (q : ChunkContents). set_put t place (resized q.bytes len)) made-source
        ∙ ap (λ (z : SetState). set_put z place p.bytes) made ∙ put-taken s n place room [] p.bytes none

    pub filled-from : has u.chunks from ≡ true
    filled-from = ap (λ (z : SetState). has z.chunks from) filled-is ∙ ap (λ (cs : List ChunkContents). has cs from) (taken-chunks s n p)
        ∙ has-later p s.chunks from away ∙ there
