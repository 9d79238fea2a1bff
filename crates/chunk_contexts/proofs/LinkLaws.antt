-- What the free lists of a layout are after a chunk is made, written, freed or taken again, whatever the lists go by.
use Rattle.std.proofs.Common.{◌≡◌, ◌≢◌, ℕ, true, false, List, [], ◌∷◌, ◌++◌, Some, take, sym, ap, ◌∙◌, subst, arith}
use Rattle.chunk_contexts.proofs.Words.{◌==◌, Every, Layout, ChunkContents, is_at, has, contents_at, no_contents, without, put_at}
use Rattle.chunk_contexts.proofs.Words.{with_contents}
use Rattle.chunk_contexts.proofs.Words.{Place, live, first_free, Elsewhere, AreLinked, link_bytes, IsLinkable, IsLink}
use Rattle.chunk_contexts.proofs.Laws.{cond-true, true≢false, eq-eqb, every_filter, pairwise_filter, first_has, first_passes, same-place}
use Rattle.chunk_contexts.proofs.Laws.{without-none, has_not-without, common_steps, nat_tests}
use Rattle.chunk_contexts.proofs.FreeLaws.{IsLiveAt, live-found, Popped, popped, without-elsewhere, first_free-kept, linked-kept}
use Rattle.chunk_contexts.proofs.FreeLaws.{live-without, live-first, live-none}

pub link-first : (key : Place → ℕ → ℕ) (k : ℕ) (ps : List ChunkContents) → Every (λ (p : ChunkContents). IsLinkable p.place) ps
    → IsLink (first_free key k ps)
link-first key k [] every = tt
link-first key k (p ∷ ps) every = grind (arith, nat_tests, common_steps, link-first key k ps every.1)

module _ (key : Place → ℕ → ℕ) (l : Layout) (are : AreLinked key l) where
  abbrev ps : List ChunkContents
  ps = l.contents

  pub linkable : (place : Place) → has ps place ≡ true → IsLinkable place
  linkable place there = subst IsLinkable (same-place (contents_at ps place).place place (first_passes (is_at place) no_contents ps there))
      (first_has (λ (p : ChunkContents). IsLinkable p.place) (is_at place) no_contents ps there are.ranges)

  -- the bytes of a live chunk are written
  module _ (place : Place) (there : has (live ps) place ≡ true) (kept : ℕ) (bytes : List ℕ) where
    is : IsLiveAt ps place
    is = live-found ps place are.places there

    abbrev p : ChunkContents
    p = record {
      place = place;
      room = (contents_at ps place).room;
      is_live = true;
      bytes = take kept
          (contents_at ps place).bytes ++ bytes;
    }

    pub links-put : AreLinked key (put_at l place kept bytes true)
    links-put = record {
      head = are.head;
      places = (without-elsewhere p ps, pairwise_filter Elsewhere _ ps are.places);
      ranges = (linkable place is.there, every_filter _ _ ps are.ranges);
      linked = (λ dead. absurd (true≢false dead), linked-kept key ps place is.only are.linked);
    }

    pub first-put : (k : ℕ) → first_free key k (put_at l place kept bytes true).contents ≡ first_free key k ps
    first-put k = first_free-kept key k ps place is.only

  -- a live chunk is made where none was
  module _ (p : ChunkContents) (lives : p.is_live ≡ true) (none : has ps p.place ≡ false) (links : IsLinkable p.place) where
    pub links-new : AreLinked key (with_contents l p)
    links-new = grind (arith, nat_tests, common_steps, without-elsewhere p ps, without-none ps p.place none)

    pub first-new : (k : ℕ) → first_free key k (with_contents l p).contents ≡ first_free key k ps
    first-new k = grind (arith, nat_tests, common_steps, without-none ps p.place none)

    pub live-new : live (with_contents l p).contents ≡ p ∷ live ps
    live-new = live-first p (without ps p.place) lives ∙ ap (λ (t : List ChunkContents). p ∷ live t) (without-none ps p.place none)

  -- the first free chunk of a list is taken
  module _ (k : ℕ) (place : Place) (first : first_free key k ps ≡ Some place) where
    pub was : Popped key ps place k
    was = popped key k ps place are.places are.linked first

    pub link-next : IsLink (first_free key k (without ps place))
    link-next = link-first key k (without ps place) (every_filter _ _ ps are.ranges)

    pub links-reused : AreLinked key (put_at l place 0 [] true)
    links-reused = record {
      head = are.head;
      places = (
        without-elsewhere (record { place = place; room = (contents_at ps place).room; is_live = true; bytes = [] }) ps,
        pairwise_filter Elsewhere _ ps are.places,
      );
      ranges = (linkable place was.there, every_filter _ _ ps are.ranges);
      linked = (λ dead. absurd (true≢false dead), was.linked);
    }

    pub live-reused : live (put_at l place 0 [] true).contents
        ≡ (record { place = place; room = (contents_at ps place).room; is_live = true; bytes = [] }) ∷ live ps
    live-reused = λ i. (record { place = place; room = (contents_at ps place).room; is_live = true; bytes = [] }) ∷ was.lives i

    pub fresh-reused : has (live ps) place ≡ false
    fresh-reused = ap (λ (t : List ChunkContents). has t place) (sym was.lives)
        ∙ live-none (without ps place) place (has_not-without ps place)

  -- a live chunk is freed
  module _ (place : Place) (there : has (live ps) place ≡ true) (k : ℕ) (listed : key place (contents_at ps place).room ≡ k) where
    pub was_live : IsLiveAt ps place
    was_live = live-found ps place are.places there

    abbrev freed : Layout
    freed = put_at l place 0 (link_bytes (first_free key k ps)) false

    abbrev q : ChunkContents
    q = record { place = place; room = (contents_at ps place).room; is_live = false; bytes = link_bytes (first_free key k ps) }

    pub first-freed : first_free key k freed.contents ≡ Some place
    first-freed = cond-true (key place q.room == k) (Some place) (first_free key k (without ps place)) (eq-eqb (key place q.room) k listed)

    pub first-freed_other : (other : ℕ) → other ≢ k → first_free key other freed.contents ≡ first_free key other ps
    first-freed_other other ne = grind (arith, nat_tests, common_steps, first_free-kept key other ps place was_live.only)

    pub links-released : AreLinked key freed
    links-released = record {
      head = are.head;
      places = (without-elsewhere q ps, pairwise_filter Elsewhere _ ps are.places);
      ranges = (linkable place was_live.there, every_filter _ _ ps are.ranges);
      linked = (
        λ dead. ap link_bytes (ap (λ (r : ℕ). first_free key r ps) (sym listed)
            ∙ sym (first_free-kept key (key place q.room) ps place was_live.only)),
        linked-kept key ps place was_live.only are.linked,
      );
    }

    pub live-released : live freed.contents ≡ without (live ps) place
    live-released = live-without ps place
