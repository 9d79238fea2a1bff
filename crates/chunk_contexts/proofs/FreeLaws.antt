-- Laws of free chunks, and of live ones among them.
use Rattle.std.proofs.Common.{◌≡◌, ◌≢◌, ℕ, Bool, true, false, not, List, [], ◌∷◌, Option, Some, None, length, refl, ◌∙◌, arith}
use Rattle.chunk_contexts.proofs.Words.{◌==◌, is_some, Every, Pairwise, ChunkContents, is_at, has, contents_at, no_contents, without}
use Rattle.chunk_contexts.proofs.Words.{outside}
use Rattle.chunk_contexts.proofs.Words.{Place, live, by_room, free_rooms, first_free, is_in, minus, Linked, Elsewhere, link_bytes}
use Rattle.chunk_contexts.proofs.Laws.{cond-true, cond-false, not_from_false, not-true, false≢true, and_parts, and_from, every_weaker}
use Rattle.chunk_contexts.proofs.Laws.{every_passes, first_has, first_passes, place-same, same_place-sym, has-first, contents_at-first}
use Rattle.chunk_contexts.proofs.Laws.{without-first, has-later, contents_at-later, without-later, without-none, common_steps, nat_tests}
use Rattle.std.specs.List.{filter}

-- ---- filters one after the other
pub filter-swap : {X : Type 0} (f g : X → Bool) (xs : List X) → filter f (filter g xs) ≡ filter g (filter f xs)
filter-swap f g [] = refl
filter-swap f g (x ∷ xs) = grind (arith, nat_tests, common_steps, filter-swap f g xs)

pub live-without : (ps : List ChunkContents) (place : Place) → live (without ps place) ≡ without (live ps) place
live-without ps place = filter-swap (λ (p : ChunkContents). p.is_live) (λ (p : ChunkContents). not (is_at place p)) ps

pub live-outside : (ps : List ChunkContents) (b : ℕ) → live (outside ps b) ≡ outside (live ps) b
live-outside ps b = filter-swap (λ (p : ChunkContents). p.is_live) (λ (p : ChunkContents). not (p.place.block == b)) ps

pub live-first : (p : ChunkContents) (ps : List ChunkContents) → p.is_live ≡ true → live (p ∷ ps) ≡ p ∷ live ps
live-first p ps lives = cond-true p.is_live (p ∷ live ps) (live ps) lives

pub live-later : (p : ChunkContents) (ps : List ChunkContents) → p.is_live ≡ false → live (p ∷ ps) ≡ live ps
live-later p ps dead = cond-false p.is_live (p ∷ live ps) (live ps) dead

-- ---- places
pub elsewhere-sym : (p q : ChunkContents) → Elsewhere p q → Elsewhere q p
elsewhere-sym p q e = same_place-sym q.place p.place ∙ e

-- a chunk that is elsewhere than all is not at the place of one
pub elsewhere-not : (p : ChunkContents) (ps : List ChunkContents) (place : Place) → Every (Elsewhere p) ps → has ps place ≡ true
    → is_at place p ≡ false
elsewhere-not p ps place every there = grind (
  arith,
  nat_tests,
  common_steps,
  first_has (Elsewhere p) (is_at place) no_contents ps there every,
  first_passes (is_at place) no_contents ps there,
)

pub elsewhere-none : (p : ChunkContents) (ps : List ChunkContents) → Every (Elsewhere p) ps → has ps p.place ≡ false
elsewhere-none p ps every = grind (arith, nat_tests, common_steps, elsewhere-not p ps p.place every)

-- what is left out is elsewhere
pub without-elsewhere : (p : ChunkContents) (ps : List ChunkContents) → Every (Elsewhere p) (without ps p.place)
without-elsewhere p ps = every_weaker (λ (q : ChunkContents). not (is_at p.place q) ≡ true) (Elsewhere p)
    (λ q e. same_place-sym p.place q.place ∙ not-true (is_at p.place q) e) (without ps p.place)
    (every_passes (λ (q : ChunkContents). not (is_at p.place q)) ps)

-- a relation between each two holds between one and all others
pub pairwise-found : (R : ChunkContents → ChunkContents → Type 0) → ((p q : ChunkContents) → R p q → R q p)
    → (ps : List ChunkContents) (place : Place) → has ps place ≡ true → Pairwise Elsewhere ps → Pairwise R ps
    → Every (R (contents_at ps place)) (without ps place)
pairwise-found R flip [] place there places pairs = tt
pairwise-found R flip (p ∷ ps) place there places pairs = grind (
  arith,
  nat_tests,
  common_steps,
  elsewhere-none p ps places.0,
  without-none
      ps place,
  first_has (R p) (is_at place) no_contents ps,
  pairwise-found R flip ps place,
)

-- ---- a live chunk among all
-- whatever is at a place is live
abbrev pub LiveAt : Place → ChunkContents → Type 0
LiveAt place p = is_at place p ≡ true → p.is_live ≡ true

pub record IsLiveAt (ps : List ChunkContents) (place : Place) : Type 0 where
  pub there : has ps place ≡ true
  pub same : contents_at ps place ≡ contents_at (live ps) place
  pub lives : (contents_at ps place).is_live ≡ true
  pub only : Every (LiveAt place) ps

pub live-found : (ps : List ChunkContents) (place : Place) → Pairwise Elsewhere ps → has (live ps) place ≡ true → IsLiveAt ps place
live-found [] place places there = absurd (false≢true there)
live-found (p ∷ ps) place places there = grind (
  arith,
  nat_tests,
  common_steps,
  every_weaker (Elsewhere p) (LiveAt place),
  elsewhere-sym p,
  has-later p (live ps) place,
  live-found ps place places.1,
  contents_at-later p ps place,
  has-later p ps place,
  contents_at-later p (live ps)
      place,
  live-later p ps,
  elsewhere-not p ps place places.0,
)

pub live-none : (ps : List ChunkContents) (place : Place) → has ps place ≡ false → has (live ps) place ≡ false
live-none [] place none = refl
live-none (p ∷ ps) place none = grind (arith, nat_tests, common_steps, live-none ps place)

-- ---- a live chunk is left out, or is no free one
pub first_free-kept : (key : Place → ℕ → ℕ) (k : ℕ) (ps : List ChunkContents) (place : Place) → Every (LiveAt place) ps
    → first_free key k (without ps place) ≡ first_free key k ps
first_free-kept key k [] place every = refl
first_free-kept key k (p ∷ ps) place every = grind (arith, nat_tests, common_steps, first_free-kept key k ps place every.1)

pub free_rooms-kept : (ps : List ChunkContents) (place : Place) → Every (LiveAt place) ps → free_rooms (without ps place) ≡ free_rooms ps
free_rooms-kept [] place every = refl
free_rooms-kept (p ∷ ps) place every = grind (arith, nat_tests, common_steps, free_rooms-kept ps place every.1)

pub linked-kept : (key : Place → ℕ → ℕ) (ps : List ChunkContents) (place : Place) → Every (LiveAt place) ps → Linked key ps
    → Linked key (without ps place)
linked-kept key [] place every linked = tt
linked-kept key (p ∷ ps) place every linked = grind (
  arith,
  nat_tests,
  common_steps,
  linked-kept key ps place every.1 linked.1,
  first_free-kept key (key p.place p.room) ps place every.1,
)

-- ---- the first free chunk of a list is taken
pub record Popped (key : Place → ℕ → ℕ) (ps : List ChunkContents) (place : Place) (k : ℕ) : Type 0 where
  pub there : has ps place ≡ true
  pub dead : (contents_at ps place).is_live ≡ false
  pub listed : key (contents_at ps place).place (contents_at ps place).room ≡ k
  pub bytes : (contents_at ps place).bytes ≡ link_bytes (first_free key k (without ps place))
  pub others : (other : ℕ) → other ≢ k → first_free key other (without ps place) ≡ first_free key other ps
  pub linked : Linked key (without ps place)
  pub lives : live (without ps place) ≡ live ps

pub popped : (key : Place → ℕ → ℕ) (k : ℕ) (ps : List ChunkContents) (place : Place) → Pairwise Elsewhere ps → Linked key ps
    → first_free key k ps ≡ Some place → Popped key ps place k
popped key k [] place places linked first = absurd (cc)
popped key k (p ∷ ps) place places linked first = grind (
  arith,
  nat_tests,
  and_parts (not p.is_live) (key p.place p.room == k),
  place-same
      p.place,
  elsewhere-none p ps places.0,
  without-first p ps place,
  without-none ps place,
  contents_at-first p ps place,
  has-first p ps place,
  live-later p ps,
  popped key k ps place places.1 linked.1,
  elsewhere-not p ps place places.0,
  contents_at-later p ps place,
  without-later p
      ps place,
  and_from (not p.is_live) (key p.place p.room == k),
  not_from_false p.is_live,
  has-later p ps place,
)

-- the rooms of the free chunks then
pub rooms-popped : (room : ℕ) (ps : List ChunkContents) (place : Place) → Pairwise Elsewhere ps → Linked by_room ps
    → first_free by_room room ps ≡ Some place → free_rooms (without ps place) ≡ minus room (free_rooms ps)
rooms-popped room [] place places linked first = absurd (cc)
rooms-popped room (p ∷ ps) place places linked first = grind (
  arith,
  nat_tests,
  common_steps,
  place-same p.place,
  elsewhere-none p ps
      places.0,
  without-first p ps place,
  without-none ps place,
  popped by_room room ps place places.1 linked.1,
  rooms-popped room ps place
      places.1 linked.1,
)

-- there is a free chunk of a room just where its list has a first
pub in-free_rooms : (room : ℕ) (ps : List ChunkContents) → is_in room (free_rooms ps) ≡ is_some (first_free by_room room ps)
in-free_rooms room [] = refl
in-free_rooms room (p ∷ ps) = grind (arith, nat_tests, common_steps, in-free_rooms room ps)

pub length-link : (o : Option Place) → length (link_bytes o) ≡ 8
length-link None = refl
length-link (Some p) = refl
