-- Arrays in a set that change.
use Rattle.std.specs.Prelude.{◌≡◌, refl, ℕ, true, false, cond, if◌then◌else◌, List, [], ◌∷◌, length, IsTrue}
use Rattle.std.proofs.Common.{ap, arith}
use Rattle.group_table.proofs.Words.{ChunkContents, place_of, same_place, is_at, contents_at, rewritten, with_bytes_of, Place, ChunkName}
use Rattle.group_table.proofs.Words.{SetState, set_wrote, chunks_of, has_chunk, chunk_bytes, with_bytes, Context, AllocSet, IsRewritten}
use Rattle.chunk_contexts.specs.Chunks.{KeepsOthers}
use Rattle.std.proofs.lemmas.Bool.Decides.{nat_tests}
use Rattle.std.proofs.lemmas.Grind.{common_steps}

-- a chunk that is written over keeps its room
room_kept : (ps : List ChunkContents) (place : Place) (bytes : List ℕ) (q : Place) → (contents_at (rewritten ps place bytes) q).room
    ≡ (contents_at ps q).room
room_kept [] place bytes q = refl
room_kept (p ∷ ps) place bytes q =
    elim (is_at place p) as (λ b. (contents_at (if b then (with_bytes_of p bytes ∷ ps) else (p ∷ rewritten ps place bytes)) q).room
    ≡ (contents_at (p ∷ ps) q).room) [
      | true ↦ elim (is_at q p) as (λ b. (cond b (with_bytes_of p bytes) (contents_at ps q)).room ≡ (cond b p (contents_at ps q)).room)
          [ true ↦ refl | false ↦ refl ]
      | false ↦ let rest = room_kept ps place bytes q in elim (is_at q p) as (λ b. (cond b p (contents_at
          (rewritten ps place bytes) q)).room
          ≡ (cond b p (contents_at ps q)).room) [ true ↦ refl | false ↦ rest ]
    ]

pub rewritten_once : (c : Context) (s : SetState) (name : ChunkName) (bytes : List ℕ) → c ≡ AllocSet s
    → IsTrue (has_chunk (with_bytes c (place_of name) bytes) name)
    → KeepsOthers (chunks_of c) (chunks_of (with_bytes c (place_of name) bytes)) name name
    → IsRewritten c (with_bytes c (place_of name) bytes) name
rewritten_once c s name bytes is lives keeps = record {
  old = s;
  new = set_wrote s (place_of name) bytes;
  before_is = is;
  after_is = ap (λ (x : Context). with_bytes x (place_of name) bytes) is;
  blocks = refl;
  free = refl;
  left = refl;
  next = refl;
  first = refl;
  rooms = room_kept s.chunks (place_of name) bytes;
  lives = lives;
  keeps = keeps;
}

-- nothing is written over, or one after the other
pub not_rewritten : (c : Context) (s : SetState) (name : ChunkName) → c ≡ AllocSet s → IsTrue (has_chunk c name) → IsRewritten c c name
not_rewritten c s name is lives = grind (arith, nat_tests, common_steps)

pub one_set : (s t : SetState) → AllocSet s ≡ AllocSet t → s ≡ t
one_set s t e = cc

pub rewritten_twice : (a b c : Context) (name : ChunkName) → IsRewritten a b name → IsRewritten b c name → IsRewritten a c name
rewritten_twice a b c name first second = grind (arith, nat_tests, common_steps)

-- the bytes of another chunk are as they were
pub other_bytes : (a b : Context) (name other : ChunkName) → IsRewritten a b name → same_place (place_of name) (place_of other) ≡ false
    → IsTrue (has_chunk a other) → chunk_bytes b other ≡ chunk_bytes a other
other_bytes a b name other is apart there = (is.keeps other apart there).2

-- a live chunk is as long as its name says
pub as_named : (c : Context) (name : ChunkName) → IsTrue (has_chunk c name) → length (chunk_bytes c name) ≡ name.len
as_named c name lives = grind (arith, nat_tests, common_steps)
