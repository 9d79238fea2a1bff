-- Chunks of one size, after one is made, written, freed or taken again.
use Rattle.std.proofs.Common.{◌≡◌, ◌≢◌, ℕ, ◌+◌, ◌*◌, ◌<◌, ◌≤◌, inl, inr, Bool, true, false, List, [], ◌∷◌, ◌++◌, Option, Some, None, get_or}
use Rattle.std.proofs.Common.{take, refl, sym, ap, ◌∙◌, subst, arith}
use Rattle.chunk_contexts.proofs.Words.{IsTrue, is_some, Every, Pairwise, Layout, ChunkContents, is_at, has, contents_at, no_contents}
use Rattle.chunk_contexts.proofs.Words.{without}
use Rattle.chunk_contexts.proofs.Words.{put_at, with_contents, size_at, IsClear, Place, live, rounded, by_block, first_free, Elsewhere}
use Rattle.chunk_contexts.proofs.Words.{AreLinked, IsLinkable, MOST}
use Rattle.chunk_contexts.proofs.Laws.{cases_eq, every_weaker, first_has, first_passes, same-place, without-none, nat_tests, common_steps}
use Rattle.std.proofs.Math.Nat.{mul-le-mul_right, div-le_of_le-mul}
use Rattle.chunk_contexts.specs.Generation.{in_block}
use Rattle.chunk_contexts.specs.Slab.{slab_block, per_block, IsSlabLayout, IsEntry}
use Rattle.chunk_contexts.specs.declared.slab_chunks.SlabBlock.{SlabBlock}
use Rattle.chunk_contexts.proofs.FreeLaws.{Popped}
use Rattle.chunk_contexts.proofs.CutLaws.{none-at}
use Rattle.chunk_contexts.proofs.RunMoves.{every-put}
use Rattle.chunk_contexts.proofs.GenLaws.{in-here}
use Rattle.chunk_contexts.proofs.GenMoves.{in-put}
use Rattle.chunk_contexts.proofs.LinkLaws as Link

-- so many chunks have room in a block
pub chunk-fits : (room n : ℕ) → n < per_block room → n * (8 + room) + (8 + room) ≤ slab_block room
unfolding per_block
chunk-fits room n few = grind (arith, nat_tests, common_steps)

-- where no chunk of a block is free, all of them are live
pub none-free : (ps : List ChunkContents) (k : ℕ) → first_free by_block k ps ≡ None → in_block ps k ≡ in_block (live ps) k
none-free [] k none = refl
none-free (p ∷ ps) k none = grind (arith, nat_tests, common_steps, none-free ps k)

module _ (size : ℕ) (l : Layout) (is : IsSlabLayout size l) where
  abbrev ps : List ChunkContents
  ps = l.contents

  abbrev room : ℕ
  room = rounded size

  abbrev places : Pairwise Elsewhere l.contents
  places = is.links.places

  -- a chunk is written, freed or taken again
  module _ (place : Place) (there : has ps place ≡ true) (kept : ℕ) (bytes : List ℕ) (lives : Bool)
      (links : AreLinked by_block (put_at l place kept bytes lives)) where
    abbrev q : ChunkContents
    q = record {
      place = place;
      room = (contents_at ps place).room;
      is_live = lives;
      bytes = take kept
          (contents_at ps place).bytes ++ bytes;
    }

    ends : Every (λ (p : ChunkContents). p.place.offset + p.room ≤ in_block ps p.place.block * (8 + room)) (q ∷ without ps place)
    ends = every-put (λ (p : ChunkContents). p.place.offset + p.room ≤ in_block ps p.place.block * (8 + room))
        (λ p q at same h. subst (λ (x : Place). x.offset + q.room ≤ in_block ps x.block * (8 + room)) at
        (subst (λ (r : ℕ). p.place.offset + r ≤ in_block ps p.place.block * (8 + room)) same h)) ps place there q refl refl is.ends

    pub slab-put : IsSlabLayout size (put_at l place kept bytes lives)
    slab-put = record {
      links = links;
      rooms = every-put (λ (p : ChunkContents). p.room ≡ room) (λ p q at same h. sym same ∙ h) ps place there q refl refl is.rooms;
      there = every-put (λ (p : ChunkContents). IsTrue (is_some (get_or l.blocks p.place.block None)))
          (λ p q at same h. subst (λ (x : Place). IsTrue (is_some (get_or l.blocks x.block None))) at h) ps place there q refl refl
          is.there;
      sizes = is.sizes;
      ends = every_weaker (λ (p : ChunkContents). p.place.offset + p.room ≤ in_block ps p.place.block * (8 + room))
          (λ (p : ChunkContents). p.place.offset + p.room ≤ in_block (q ∷ without ps place) p.place.block * (8 + room))
          (λ p h. subst (λ (n : ℕ). p.place.offset + p.room ≤ n * (8 + room)) (sym (in-put ps place q p.place.block there places refl)) h)
          (q ∷ without ps place) ends;
    }

  -- ---- the chunk that was given up last is taken again
  module _ (k : ℕ) (place : Place) (first : first_free by_block k ps ≡ Some place) where
    abbrev again : Layout
    again = put_at l place 0 [] true

    pub was : Popped by_block ps place k
    was = Link.was by_block l is.links k place first

    at : (contents_at ps place).place ≡ place
    at = same-place (contents_at ps place).place place (first_passes (is_at place) no_contents ps was.there)

    pub reused-block : place.block ≡ k
    reused-block = ap (λ (x : Place). x.block) (sym at) ∙ was.listed

    pub reused-layout : IsSlabLayout size again
    reused-layout = slab-put place was.there 0 [] true (Link.links-reused by_block l is.links k place first)

    reused-room : (contents_at ps place).room ≡ room
    reused-room = first_has (λ (p : ChunkContents). p.room ≡ room) (is_at place) no_contents ps was.there is.rooms

    pub reused-live : live again.contents ≡ (record { place = place; room = room; is_live = true; bytes = [] }) ∷ live ps
    reused-live = λ i. (record { place = place; room = reused-room i; is_live = true; bytes = [] }) ∷ was.lives i

    pub reused-fresh : has (live ps) place ≡ false
    reused-fresh = Link.fresh-reused by_block l is.links k place first

    abbrev p : ChunkContents
    p = record { place = place; room = (contents_at ps place).room; is_live = true; bytes = [] }

    pub reused-entry : (e : SlabBlock) → IsEntry ps k e → (next : Option Place) → next ≡ first_free by_block k (without ps place)
        → IsEntry again.contents k (record { free = next; cut = e.cut; live = e.live + 1 })
    reused-entry e entry next is-next = grind (
      arith,
      nat_tests,
      common_steps,
      in-put ps place p k was.there places refl,
      reused-live,
      in-here (record { place = place; room = room; is_live = true; bytes = [] }) (live ps) k reused-block,
    )

    pub reused-other : (j : ℕ) → j ≢ k → (e : SlabBlock) → IsEntry ps j e → IsEntry again.contents j e
    reused-other j ne e entry = grind (
      arith,
      nat_tests,
      was.others j ne,
      in-put ps place p j was.there places refl,
      reused-live,
      reused-block,
    )

  -- ---- the next chunk is cut from a block
  module _ (k : ℕ) (name : k < 4294967296) (some : IsTrue (is_some (get_or l.blocks k None))) (small : size ≤ MOST)
      (none : first_free by_block k ps ≡ None) (few : in_block (live ps) k < per_block room) where
    abbrev cut : ℕ
    cut = in_block ps k

    pub cut-fits : cut * (8 + room) + (8 + room) ≤ slab_block room
    cut-fits = chunk-fits room cut (omega (arith, none-free ps k none, few))

    abbrev cut_place : Place
    cut_place = record { block = k; offset = cut * (8 + room) + 8 }

    abbrev new_chunk : ChunkContents
    new_chunk = record { place = cut_place; room = room; is_live = true; bytes = [] }

    pub cut-inside : cut_place.offset + room ≤ size_at l.blocks cut_place.block
    cut-inside = omega (arith, cut-fits, is.sizes k some)

    before : Every (λ (p : ChunkContents). p.place.block ≡ k → p.place.offset + p.room ≤ cut * (8 + room)) ps
    before = every_weaker (λ (p : ChunkContents). p.place.offset + p.room ≤ in_block ps p.place.block * (8 + room))
        (λ (p : ChunkContents). p.place.block ≡ k → p.place.offset + p.room ≤ cut * (8 + room))
        (λ p h same. subst (λ (j : ℕ). p.place.offset + p.room ≤ in_block ps j * (8 + room)) same h) ps is.ends

    pub cut-clear : Every (IsClear l.head cut_place room) ps
    cut-clear = every_weaker (λ (p : ChunkContents). p.place.block ≡ k → p.place.offset + p.room ≤ cut * (8 + room))
        (IsClear l.head cut_place room)
        (λ p h. elim (cases_eq p.place.block k) [
          | inl same ↦ inr (inl (omega (arith, h same, is.links.head)))
          | inr ne ↦ inl ne
        ]) ps before

    fresh : has ps cut_place ≡ false
    fresh = none-at cut_place ps (every_weaker (λ (p : ChunkContents). p.place.block ≡ k → p.place.offset + p.room ≤ cut * (8 + room))
        (λ (p : ChunkContents). p.place ≡ cut_place → ⊥)
        (λ p h e. let o = ap (λ (x : Place). x.offset) e in omega (arith, h (ap (λ (x : Place). x.block) e), o)) ps before)

    linkable : IsLinkable cut_place
    linkable = record { block = name; some = omega arith; offset = omega (arith, cut-fits, small) }

    abbrev cut' : Layout
    cut' = with_contents l new_chunk

    contents : cut'.contents ≡ new_chunk ∷ ps
    contents = ap (λ (t : List ChunkContents). new_chunk ∷ t) (without-none ps cut_place fresh)

    more : (j : ℕ) → in_block ps j ≤ in_block (new_chunk ∷ ps) j
    more j = grind (arith, nat_tests, common_steps)

    pub cut-layout : IsSlabLayout size cut'
    cut-layout = record {
      links = Link.links-new by_block l is.links new_chunk refl fresh linkable;
      rooms = subst (Every (λ (p : ChunkContents). p.room ≡ room)) (sym contents) (refl, is.rooms);
      there = subst (Every (λ (p : ChunkContents). IsTrue (is_some (get_or l.blocks p.place.block None)))) (sym contents) (some, is.there);
      sizes = is.sizes;
      ends = subst (λ (t : List ChunkContents). Every (λ (p : ChunkContents). p.place.offset + p.room ≤ in_block t p.place.block
          * (8 + room)) t) (sym contents) (
            subst (λ (n : ℕ). cut_place.offset + room ≤ n * (8 + room)) (sym (in-here new_chunk ps k refl)) (omega arith),
            every_weaker (λ (p : ChunkContents). p.place.offset + p.room ≤ in_block ps p.place.block * (8 + room))
                (λ (p : ChunkContents). p.place.offset + p.room ≤ in_block (new_chunk ∷ ps) p.place.block * (8 + room))
                (λ p h. omega (arith, h, mul-le-mul_right (8 + room) (more p.place.block))) ps is.ends,
          );
    }

    pub cut-live : live cut'.contents ≡ new_chunk ∷ live ps
    cut-live = Link.live-new by_block l is.links new_chunk refl fresh linkable

    pub cut-fresh : has (live ps) cut_place ≡ false
    cut-fresh = Rattle.chunk_contexts.proofs.FreeLaws.live-none ps cut_place fresh

    pub cut-entry : (e : SlabBlock) → IsEntry ps k e → IsEntry cut'.contents k
        (record { free = e.free; cut = e.cut + 1; live = e.live + 1 })
    cut-entry e entry = grind (arith, nat_tests, Link.first-new by_block l is.links new_chunk refl fresh linkable k, contents, cut-live)

    pub cut-other : (j : ℕ) → j ≢ k → (e : SlabBlock) → IsEntry ps j e → IsEntry cut'.contents j e
    cut-other j ne e entry =
        grind (arith, nat_tests, Link.first-new by_block l is.links new_chunk refl fresh linkable j, contents, cut-live)

-- how many chunks a block has
pub per-small : (room : ℕ) → room ≤ 1073741832 → per_block room ≤ 1073741840
unfolding per_block
per-small room small = div-le_of_le-mul (8 + room) {m = slab_block room} {n = 1073741840} (omega (arith, small))

pub per-some : (room : ℕ) → 1 ≤ per_block room
unfolding per_block
per-some room = grind (arith, nat_tests, common_steps)
