-- What the free lists of the classes are after a chunk is made, written, freed or taken again.
use Rattle.std.proofs.Common.{◌≡◌, ℕ, ◌<◌, true, false, List, [], ◌∷◌, ◌++◌, Option, Some, None, get_or, set, take, ap, ◌∙◌, arith}
use Rattle.chunk_contexts.proofs.Words.{Layout, ChunkContents, has, contents_at, without, put_at, with_contents, Place, live, rooms}
use Rattle.chunk_contexts.proofs.Words.{room_of}
use Rattle.chunk_contexts.proofs.Words.{class_of, by_room, is_in, minus, free_rooms, first_free, AreLists, link_bytes, IsLinkable, IsLink}
use Rattle.chunk_contexts.proofs.Laws.{get_or-set_same, get_or-set_other, length-set, common_steps, nat_tests}
use Rattle.chunk_contexts.proofs.ClassLaws.{room-inj, class-of_room}
use Rattle.chunk_contexts.proofs.FreeLaws.{IsLiveAt, Popped, live-found, rooms-popped, free_rooms-kept, live-without}
use Rattle.chunk_contexts.proofs.LinkLaws as Link

module _ (l : Layout) (heads : List (Option Place)) (are : AreLists l heads) where
  abbrev ps : List ChunkContents
  ps = l.contents

  -- the bytes of a live chunk are written
  module _ (place : Place) (there : has (live ps) place ≡ true) (kept : ℕ) (bytes : List ℕ) where
    abbrev p : ChunkContents
    p = record {
      place = place;
      room = (contents_at ps place).room;
      is_live = true;
      bytes = take kept
          (contents_at ps place).bytes ++ bytes;
    }

    pub lists-put : AreLists (put_at l place kept bytes true) heads
    lists-put = grind (
      arith,
      nat_tests,
      Link.links-put by_room l are.links place there kept bytes,
      Link.first-put by_room l are.links place
          there kept bytes,
    )

    pub live-put : live (put_at l place kept bytes true).contents ≡ p ∷ without (live ps) place
    live-put = ap (λ (t : List ChunkContents). p ∷ t) (live-without ps place)

    pub rooms-put : free_rooms (put_at l place kept bytes true).contents ≡ free_rooms ps
    rooms-put = free_rooms-kept ps place (live-found ps place are.links.places there).only

  -- a live chunk is made where none was
  module _ (p : ChunkContents) (lives : p.is_live ≡ true) (none : has ps p.place ≡ false) (links : IsLinkable p.place) where
    pub lists-new : AreLists (with_contents l p) heads
    lists-new = grind (
      arith,
      nat_tests,
      common_steps,
      Link.links-new by_room l are.links p lives none links,
      Link.first-new by_room l
          are.links p lives none links,
    )

    pub live-new : live (with_contents l p).contents ≡ p ∷ live ps
    live-new = Link.live-new by_room l are.links p lives none links

  -- the first free chunk of a class is taken
  module _ (class : ℕ) (place : Place) (low : class < 11) (first : first_free by_room (room_of class) ps ≡ Some place) where
    pub was : Popped by_room ps place (room_of class)
    was = Link.was by_room l are.links (room_of class) place first

    pub link-next : IsLink (first_free by_room (room_of class) (without ps place))
    link-next = Link.link-next by_room l are.links (room_of class) place first

    module _ (next : Option Place) (is : next ≡ first_free by_room (room_of class) (without ps place)) where
      pub lists-reused : AreLists (put_at l place 0 [] true) (set heads class next)
      lists-reused = grind (
        arith,
        nat_tests,
        Link.links-reused by_room l are.links (room_of class) place first,
        length-set heads class
            next,
        get_or-set_same heads class next None,
        get_or-set_other heads class,
        was.others,
        room-inj,
        are.firsts,
      )

    pub live-reused : live (put_at l place 0 [] true).contents ≡
        (record { place = place; room = room_of class; is_live = true; bytes = [] })
        ∷ live ps
    live-reused = λ i. (record { place = place; room = was.listed i; is_live = true; bytes = [] }) ∷ was.lives i

    pub rooms-reused : free_rooms (put_at l place 0 [] true).contents ≡ minus (room_of class) (free_rooms ps)
    rooms-reused = rooms-popped (room_of class) ps place are.links.places are.links.linked first

    pub fresh-reused : has (live ps) place ≡ false
    fresh-reused = Link.fresh-reused by_room l are.links (room_of class) place first

  -- a live chunk is freed
  module _ (place : Place) (there : has (live ps) place ≡ true) (room : ℕ) (size : (contents_at ps place).room
      ≡ room) (known : is_in room rooms ≡ true) where
    pub was_live : IsLiveAt ps place
    was_live = live-found ps place are.links.places there

    abbrev class : ℕ
    class = class_of room

    class-low : class < 11
    class-low = (class-of_room room known).0

    class-room : room_of class ≡ room
    class-room = (class-of_room room known).1

    abbrev freed : Layout
    freed = put_at l place 0 (link_bytes (first_free by_room room ps)) false

    firsts-freed : (other : ℕ) → other < 11 → get_or (set heads class (Some place)) other None
        ≡ first_free by_room (room_of other) freed.contents
    firsts-freed other lower = grind (
      arith,
      nat_tests,
      common_steps,
      class-room,
      Link.first-freed_other by_room l are.links place there
          room size (room_of other),
      room-inj other class lower class-low,
    )

    pub lists-released : AreLists freed (set heads class (Some place))
    lists-released = grind (arith, nat_tests, common_steps, Link.links-released by_room l are.links place there room size, firsts-freed)

    pub live-released : live freed.contents ≡ without (live ps) place
    live-released = live-without ps place

    pub rooms-released : free_rooms freed.contents ≡ room ∷ free_rooms ps
    rooms-released = λ i. size i ∷ free_rooms-kept ps place was_live.only i

    pub head-released : get_or heads class None ≡ first_free by_room room ps
    head-released = are.firsts class class-low ∙ ap (λ (r : ℕ). first_free by_room r ps) class-room
