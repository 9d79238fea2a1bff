-- The bytes of a live chunk are written over where they stand.
use Rattle.std.proofs.Common.{◌≡◌, ℕ, false, List, [], ◌∷◌, Option, map, length, cond, refl, sym, ap, ◌∙◌, subst, arith}
use Rattle.chunk_contexts.proofs.Words.{Every, Pairwise, Layout, ChunkContents, is_at, rewritten, layout_with, Place, Active, live, by_room}
use Rattle.chunk_contexts.proofs.Words.{free_rooms, first_free, Linked, Elsewhere, AreLinked, AreLists}
use Rattle.chunk_contexts.proofs.Laws.{every_map, every_weaker, pairwise_filter, filter_map_same, common_steps, nat_tests}
use Rattle.std.specs.List.{refill}
use Rattle.chunk_contexts.specs.SetFields.{IsSet, IsSetChunk, Alone}
use Rattle.chunk_contexts.proofs.FreeLaws.{LiveAt}

abbrev pub over : Place → List ℕ → ChunkContents → ChunkContents
over place ws p = record {
  place = p.place;
  room = p.room;
  is_live = p.is_live;
  bytes = cond (is_at place p)
      (refill (length p.bytes) p.bytes ws) p.bytes;
}

over-not : (place : Place) (ws : List ℕ) (p : ChunkContents) → is_at place p ≡ false → over place ws p ≡ p
over-not place ws p away = grind (arith, nat_tests, common_steps)

over-all : (place : Place) (ws : List ℕ) (ps : List ChunkContents) → Every (λ (p : ChunkContents). is_at place p ≡ false) ps
    → map (over place ws) ps ≡ ps
over-all place ws [] every = refl
over-all place ws (p ∷ ps) every = λ i. over-not place ws p every.0 i ∷ over-all place ws ps every.1 i

pub rewritten-map : (place : Place) (ws : List ℕ) (ps : List ChunkContents) → Pairwise Elsewhere ps → rewritten ps place ws
    ≡ map (over place ws) ps
rewritten-map place ws [] places = refl
rewritten-map place ws (p ∷ ps) places = grind (
  arith,
  nat_tests,
  common_steps,
  every_weaker (Elsewhere p)
      (λ (q : ChunkContents). is_at place q ≡ false),
  over-all place ws ps,
  rewritten-map place ws ps places.1,
)

pub pairwise_map : {X Y : Type 0} (R : Y → Y → Type 0) (f : X → Y) (xs : List X) → Pairwise (λ x y. R (f x) (f y)) xs
    → Pairwise R (map f xs)
pairwise_map R f [] pairs = tt
pairwise_map R f (x ∷ xs) pairs = (every_map (R (f x)) f xs pairs.0, pairwise_map R f xs pairs.1)

pub first_free-over : (key : Place → ℕ → ℕ) (place : Place) (ws : List ℕ) (k : ℕ) (ps : List ChunkContents)
    → first_free key k (map (over place ws) ps) ≡ first_free key k ps
first_free-over key place ws k [] = refl
first_free-over key place ws k (p ∷ ps) = grind (arith, nat_tests, common_steps, first_free-over key place ws k ps)

free_rooms-over : (place : Place) (ws : List ℕ) (ps : List ChunkContents) → free_rooms (map (over place ws) ps) ≡ free_rooms ps
free_rooms-over place ws [] = refl
free_rooms-over place ws (p ∷ ps) = ap (λ (t : List ℕ). cond p.is_live t (p.room ∷ t)) (free_rooms-over place ws ps)

linked-over : (key : Place → ℕ → ℕ) (place : Place) (ws : List ℕ) (ps : List ChunkContents) → Every (LiveAt place) ps → Linked key ps
    → Linked key (map (over place ws) ps)
linked-over key place ws [] lives linked = tt
linked-over key place ws (p ∷ ps) lives linked = grind (
  arith,
  nat_tests,
  common_steps,
  first_free-over key place ws (key p.place p.room)
      ps,
  linked-over key place ws ps lives.1 linked.1,
)

-- the chunks of a layout, of which a live one is written over
pub links-over : (key : Place → ℕ → ℕ) (l : Layout) → AreLinked key l → (place : Place) (ws : List ℕ) → Every (LiveAt place) l.contents
    → AreLinked key (record { head = l.head; blocks = l.blocks; contents = map (over place ws) l.contents })
links-over key l are place ws lives = grind (
  arith,
  nat_tests,
  common_steps,
  pairwise_map Elsewhere (over place ws) l.contents are.places,
  every_map,
  linked-over key place ws l.contents lives are.linked,
)

-- a list of chunks of which one is written over, and its live and free ones
module _ (place : Place) (ws : List ℕ) (ps : List ChunkContents) (places : Pairwise Elsewhere ps) where
  pub live-over : live (rewritten ps place ws) ≡ rewritten (live ps) place ws
  live-over =
      ap live (rewritten-map place ws ps places) ∙ sym (filter_map_same (λ (p : ChunkContents). p.is_live) (over place ws) ps)
      ∙ sym (rewritten-map place ws (live ps) (pairwise_filter Elsewhere _ ps places))

  pub rooms-over : free_rooms (rewritten ps place ws) ≡ free_rooms ps
  rooms-over = ap free_rooms (rewritten-map place ws ps places) ∙ free_rooms-over place ws ps

-- a set of which one live chunk is written over
module _ (l : Layout) (heads : List (Option Place)) (active : Active) (first : Option ℕ) (is : IsSet l heads active first) (place : Place)
    (ws : List ℕ) (lives : Every (LiveAt place) l.contents) where
  abbrev ps : List ChunkContents
  ps = l.contents

  abbrev qs : List ChunkContents
  qs = map (over place ws) ps

  lists-over : AreLists (record { head = l.head; blocks = l.blocks; contents = qs }) heads
  lists-over = grind (arith, nat_tests, common_steps, links-over by_room l is.lists.links place ws lives, first_free-over by_room place ws)

  set-over : IsSet (record { head = l.head; blocks = l.blocks; contents = qs }) heads active first
  set-over =
      let alone : Pairwise Alone qs = pairwise_map Alone (over place ws) ps is.alone in
      let good : Every (IsSetChunk l.blocks active first) qs = every_map (IsSetChunk l.blocks active first) (over place ws) ps
      (every_weaker (IsSetChunk l.blocks active first) (λ (p : ChunkContents). IsSetChunk l.blocks active first (over place ws p))
      (λ p g. grind (arith, nat_tests)) ps is.good) in
      grind (arith, nat_tests, lists-over, alone, good)

  pub set-lent : IsSet (layout_with l place ws) heads active first
  set-lent = subst (λ (xs : List ChunkContents). IsSet (record { head = l.head; blocks = l.blocks; contents = xs }) heads active first)
      (sym (rewritten-map place ws ps is.lists.links.places)) set-over
