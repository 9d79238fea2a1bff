-- Chunks that are cut from what is left of a block.
use Rattle.std.proofs.Common.{◌≡◌, ◌≢◌, ℕ, ◌+◌, ◌-◌, ◌<◌, ◌≤◌, Bool, true, false, List, [], ◌∷◌, refl, ap, ◌∙◌, arith}
use Rattle.chunk_contexts.proofs.Words.{◌||◌, Every, Pairwise, Layout, ChunkContents, is_at, has, IsClear, Place, Active, live, by_room}
use Rattle.chunk_contexts.proofs.Words.{IsRest, is_in, free_rooms, first_free, cut_used, cut_chunk, cut_chunks, link_bytes, LARGEST}
use Rattle.chunk_contexts.proofs.Laws.{false_from_ne_true, every_weaker, every_both, same-place, common_steps, nat_tests}
use Rattle.chunk_contexts.specs.Rooms.{rooms, rooms_down}
use Rattle.chunk_contexts.specs.Set.{cut_up}
use Rattle.chunk_contexts.specs.SetFields.{Alone}
use Rattle.chunk_contexts.proofs.ClassLaws.{in-small}

-- no chunk is where each is somewhere else
pub none-at : (place : Place) (ps : List ChunkContents) → Every (λ (p : ChunkContents). p.place ≡ place → ⊥) ps → has ps place ≡ false
none-at place [] every = refl
none-at place (p ∷ ps) every =
    ap (λ (b : Bool). b || has ps place) (false_from_ne_true (is_at place p) (λ at. every.0 (same-place p.place place at)))
    ∙ none-at place ps every.1

module _ (l : Layout) (active : Active) (rest : IsRest l active) (h room : ℕ) (some : 1 ≤ room) (fits : active.used + h
    + room ≤ active.size) where
  abbrev place : Place
  place = record { block = active.block; offset = active.used + h }

  not_empty : 0 < active.size
  not_empty = omega (arith, fits, some)

  pub rest-clear : Every (IsClear h place room) l.contents
  rest-clear = grind (
    arith,
    nat_tests,
    common_steps,
    every_weaker (λ (p : ChunkContents). 0 < active.size → p.place.block ≡ active.block
        → p.place.offset + p.room ≤ active.used) (IsClear h place room),
  )

  pub rest-none : has l.contents place ≡ false
  rest-none = none-at place l.contents (every_both (λ (p : ChunkContents). 0 < active.size → p.place.block ≡ active.block → p.place.offset
      + p.room ≤ active.used) (λ (p : ChunkContents). 1 ≤ p.room) (λ (p : ChunkContents). p.place ≡ place → ⊥)
      (λ p k one e. let o = ap (λ (q : Place). q.offset) e in absurd (omega (arith, k not_empty (ap (λ (q : Place). q.block) e), o, one)))
      l.contents rest.clear rest.rooms)

  -- with one more chunk, of which the end is used
  module _ (p : ChunkContents) (at : p.place ≡ place) (size : p.room ≡ room) where
    abbrev after : Active
    after = record { block = active.block; used = active.used + h + room; size = active.size }

    pub rest-more : IsRest (record { head = l.head; blocks = l.blocks; contents = p ∷ l.contents }) after
    rest-more =
        let clear : Every (λ (q : ChunkContents). 0 < active.size → q.place.block ≡ active.block → q.place.offset + q.room ≤ active.used + h
        + room) l.contents =
        every_weaker (λ (q : ChunkContents). 0 < active.size → q.place.block ≡ active.block → q.place.offset + q.room ≤ active.used) _
        (λ q k s b. omega (arith, k s b)) l.contents rest.clear in
        grind (arith, nat_tests, clear)

-- ---- all that is cut
pub down-known : Every (λ (room : ℕ). is_in room rooms ≡ true) rooms_down
unfolding rooms rooms_down
down-known = (refl, (refl, (refl, (refl, (refl, (refl, (refl, (refl, (refl, (refl, (refl, tt)))))))))))

abbrev cut_one : ℕ → ℕ → ℕ → List ChunkContents → ChunkContents
cut_one room block used ps = record {
  place = record { block = block; offset = used + 8 };
  room = room;
  is_live = false;
  bytes = link_bytes
      (first_free by_room room ps);
}

pub cut-every : (P : ChunkContents → Type 0) (block size : ℕ)
    → ((room used : ℕ) (bytes : List ℕ) → is_in room rooms ≡ true → room + 8 ≤ size - used
    → P (record { place = record { block = block; offset = used + 8 }; room = room; is_live = false; bytes = bytes }))
    → (rs : List ℕ) → Every (λ (room : ℕ). is_in room rooms ≡ true) rs → (used : ℕ) (ps : List ChunkContents) → Every P ps
    → Every P (cut_chunks rs block used size ps)
cut-every P block size new [] known used ps every = every
cut-every P block size new (room ∷ rs) known used ps every = grind (
  arith,
  nat_tests,
  common_steps,
  cut-every P block size new rs known.1
      (cut_used room used size) (cut_chunk room block used size ps),
)

pub cut-alone : (block size : ℕ) (rs : List ℕ) → Every (λ (room : ℕ). is_in room rooms ≡ true) rs → (used : ℕ) (ps : List ChunkContents)
    → Every (λ (q : ChunkContents). 0 < size → LARGEST < q.room → q.place.block ≢ block) ps → Pairwise Alone ps
    → Pairwise Alone (cut_chunks rs block used size ps)
cut-alone block size [] known used ps apart alone = alone
cut-alone block size (room ∷ rs) known used ps apart alone = grind (
  arith,
  nat_tests,
  common_steps,
  in-small room known.0,
  every_weaker
      (λ (q : ChunkContents). 0 < size → LARGEST < q.room → q.place.block ≢ block) (Alone (cut_one room block used ps)),
  cut-alone block size
      rs known.1 (cut_used room used size) (cut_chunk room block used size ps),
)

pub cut-live : (rs : List ℕ) (block size used : ℕ) (ps : List ChunkContents) → live (cut_chunks rs block used size ps) ≡ live ps
cut-live [] block size used ps = refl
cut-live (room ∷ rs) block size used ps = grind (
  arith,
  nat_tests,
  common_steps,
  cut-live rs block size (cut_used room used size)
      (cut_chunk room block used size ps),
)

pub cut-free : (rs : List ℕ) (block size used : ℕ) (ps : List ChunkContents) → free_rooms (cut_chunks rs block used size ps)
    ≡ cut_up rs (size - used) (free_rooms ps)
cut-free [] block size used ps = refl
cut-free (room ∷ rs) block size used ps = grind (
  arith,
  nat_tests,
  common_steps,
  cut-free rs block size (cut_used room used size)
      (cut_chunk room block used size ps),
)
