-- What the state of an `AllocSet` says of its fields at a live chunk, and what it is after they changed.
use Rattle.std.proofs.Common.{◌≡◌, ℕ, ◌+◌, ◌-◌, ◌<◌, ◌≤◌, inl, inr, true, false, List, ◌∷◌, ◌++◌, Option, None, length, get_or, set, take}
use Rattle.std.proofs.Common.{refl, sym, ap, ◌∙◌, subst, arith}
use Rattle.chunk_contexts.proofs.Words.{IsTrue, is_some, nat_lt, Layout, ChunkContents, has, is_at, contents_at, place_of, no_contents}
use Rattle.chunk_contexts.proofs.Words.{without}
use Rattle.chunk_contexts.proofs.Words.{outside, put_at, resized, total, with_block, Place, ChunkName, Every, live, is_live, bytes_of}
use Rattle.chunk_contexts.proofs.Words.{rooms, by_room, is_in, free_rooms, first_free, AreLists, link_bytes, LARGEST}
use Rattle.chunk_contexts.proofs.Laws.{lt-ltb, le-ltb, cond-true, cond-false, first_has, first_passes, same-place, total-with_block}
use Rattle.chunk_contexts.proofs.Laws.{common_steps, nat_tests}
use Rattle.chunk_contexts.specs.Set.{SetState, set_put, set_freed}
use Rattle.chunk_contexts.specs.SetFields.{set_of, IsSetChunk, AreFields}
use Rattle.chunk_contexts.specs.declared.free_lists.FreeLists.{FreeLists}
use Rattle.chunk_contexts.specs.declared.alloc_set.AllocSet.TheInside.{Inside}
use Rattle.chunk_contexts.proofs.Content.{name-there, name-len}
use Rattle.chunk_contexts.proofs.FreeLaws.{IsLiveAt, LiveAt, live-found, live-without, free_rooms-kept}
use Rattle.chunk_contexts.proofs.ListLaws.{lists-put, live-put, rooms-put, live-released, rooms-released}
use Rattle.chunk_contexts.proofs.SetLaws.{set-put, set-back, outside-is}

module _ (x : Inside) (ok : AreFields x) (s : SetState) (e : set_of x ≡ s) (place : Place) (there : IsTrue (has s.chunks place)) where
  abbrev l : Layout
  l = x.lists.layout

  abbrev ps : List ChunkContents
  ps = l.contents

  here : has (live ps) place ≡ true
  here = ap (λ (z : SetState). has z.chunks place) e ∙ there

  was : IsLiveAt ps place
  was = live-found ps place ok.set.lists.links.places here

  pub seen-there : has ps place ≡ true
  seen-there = was.there

  pub seen-only : Every (LiveAt place) ps
  seen-only = was.only

  pub seen : contents_at ps place ≡ contents_at s.chunks place
  seen = was.same ∙ ap (λ (z : SetState). contents_at z.chunks place) e

  good : IsSetChunk l.blocks x.active x.first (contents_at ps place)
  good = first_has (IsSetChunk l.blocks x.active x.first) (is_at place) no_contents ps was.there ok.set.good

  at : (contents_at ps place).place ≡ place
  at = same-place (contents_at ps place).place place (first_passes (is_at place) no_contents ps was.there)

  pub seen-housed : IsTrue (is_some (get_or l.blocks place.block None))
  seen-housed = subst (λ (q : Place). IsTrue (is_some (get_or l.blocks q.block None))) at good.there

  pub seen-block : place.block < length l.blocks
  seen-block = grind (arith, nat_tests, common_steps, seen-housed)

  pub seen-known : (room : ℕ) → room ≡ (contents_at ps place).room → room ≤ LARGEST → IsTrue (is_in room rooms)
  seen-known room is low = subst (λ (r : ℕ). IsTrue (is_in r rooms)) (sym is) (good.small (omega (arith, is, low)))

  -- other bytes
  module _ (kept : ℕ) (bytes : List ℕ) (m : Layout) (is : m ≡ put_at l place kept bytes true) where
    abbrev y : Inside
    y = record { lists = record { layout = m; heads = x.lists.heads }; active = x.active; next = x.next; first = x.first }

    pub fields-put : AreFields y
    fields-put = grind (
      arith,
      nat_tests,
      set-put l x.lists.heads x.active x.first ok.set place was.there kept bytes true x.lists.heads
          (inl refl) (lists-put l x.lists.heads ok.set.lists place here kept bytes),
    )

    pub state-put : set_of y ≡ set_put s place (take kept (contents_at s.chunks place).bytes ++ bytes)
    state-put =
        let chunks = ap (λ (z : Layout). live z.contents) is ∙ live-put l x.lists.heads ok.set.lists place here kept bytes in
        let free = ap (λ (z : Layout). free_rooms z.contents) is ∙ rooms-put l x.lists.heads ok.set.lists place here kept bytes in
        (λ i. record {
          chunks = chunks i;
          blocks = (is i).blocks;
          free = free i;
          left = x.active.size - x.active.used;
          next = x.next;
          first = x.first;
        })
        ∙ (λ i. record {
          chunks = (record { place = place; room = (was.same i).room; is_live = true; bytes = take kept (was.same i).bytes ++ bytes })
              ∷ without (live ps) place;
          blocks = l.blocks;
          free = free_rooms ps;
          left = x.active.size - x.active.used;
          next = x.next;
          first = x.first;
        })
        ∙ ap (λ (z : SetState). set_put z place (take kept (contents_at z.chunks place).bytes ++ bytes)) e

  -- a chunk of a class is freed
  module _ (low : (contents_at ps place).room ≤ LARGEST) (room : ℕ) (size : (contents_at ps place).room ≡ room)
      (known : is_in room rooms ≡ true)
      (n : FreeLists) (is : n.layout ≡ put_at l place 0 (link_bytes (first_free by_room room ps)) false)
      (lists : AreLists n.layout n.heads) where
    pub fields-released : AreFields (record { lists = n; active = x.active; next = x.next; first = x.first })
    fields-released = grind (
      arith,
      nat_tests,
      common_steps,
      set-put l x.lists.heads x.active x.first ok.set place was.there 0
          (link_bytes (first_free by_room room ps)) false n.heads (inr low),
    )

    pub state-released : set_of (record { lists = n; active = x.active; next = x.next; first = x.first }) ≡ set_freed s place
    state-released =
        let chunks = ap (λ (z : Layout). live z.contents) is ∙ live-released l x.lists.heads ok.set.lists place here room size known in
        let free = ap (λ (z : Layout). free_rooms z.contents) is ∙ rooms-released l x.lists.heads ok.set.lists place here room size known in
        let same : (contents_at (live ps) place).room ≡ room = ap (λ (q : ChunkContents). q.room) (sym was.same) ∙ size in
        let small : nat_lt LARGEST (contents_at (live ps) place).room
        ≡ false = le-ltb LARGEST (contents_at (live ps) place).room (omega (arith, same, size, low)) in
        let free' : free_rooms n.layout.contents ≡ (contents_at (live ps) place).room ∷ free_rooms ps = free
        ∙ ap (λ (r : ℕ). r ∷ free_rooms ps) (sym same) in
        let blocks = ap (λ (z : Layout). z.blocks) is
        ∙ sym (cond-false (nat_lt LARGEST (contents_at (live ps) place).room) (set l.blocks place.block None) l.blocks small) in
        (λ i. record {
          chunks = chunks i;
          blocks = blocks i;
          free = (free'
              ∙ sym (cond-false (nat_lt LARGEST (contents_at (live ps) place).room) (free_rooms ps) ((contents_at (live ps) place).room
              ∷ free_rooms ps) small)) i;
          left = x.active.size - x.active.used;
          next = x.next;
          first = x.first;
        })
        ∙ ap (λ (z : SetState). set_freed z place) e

  -- a larger chunk is freed
  module _ (big : LARGEST < (contents_at ps place).room) (m : Layout) (is : m
      ≡ record { head = l.head; blocks = set l.blocks place.block None; contents = outside ps place.block }) where
    abbrev w : Inside
    w = record { lists = record { layout = m; heads = x.lists.heads }; active = x.active; next = x.next; first = x.first }

    pub fields-back : AreFields w
    fields-back = grind (arith, nat_tests, common_steps, set-back l x.lists.heads x.active x.first ok.set place was.there was big)

    pub state-back : set_of w ≡ set_freed s place
    state-back =
        let rest = outside-is l x.lists.heads x.active x.first ok.set place was.there was big in
        let chunks = ap (λ (z : Layout). live z.contents) is ∙ ap live rest ∙ live-without ps place in
        let free = ap (λ (z : Layout). free_rooms z.contents) is ∙ ap free_rooms rest ∙ free_rooms-kept ps place was.only in
        let room = ap (λ (q : ChunkContents). q.room) was.same in
        let large : nat_lt LARGEST (contents_at (live ps) place).room
        ≡ true = lt-ltb LARGEST (contents_at (live ps) place).room (omega (arith, room, big)) in
        let blocks = ap (λ (z : Layout). z.blocks) is
        ∙ sym (cond-true (nat_lt LARGEST (contents_at (live ps) place).room) (set l.blocks place.block None) l.blocks large) in
        (λ i. record {
          chunks = chunks i;
          blocks = blocks i;
          free = (free
              ∙ sym (cond-true (nat_lt LARGEST (contents_at (live ps) place).room) (free_rooms ps) ((contents_at (live ps) place).room
              ∷ free_rooms ps) large)) i;
          left = x.active.size - x.active.used;
          next = x.next;
          first = x.first;
        })
        ∙ ap (λ (z : SetState). set_freed z place) e

-- the bytes of one chunk, made shorter or longer, are put into another, or into the same
module _ (x : Inside) (ok : AreFields x) (s : SetState) (e : set_of x ≡ s) (from : Place) (there : IsTrue (has s.chunks from)) (to : Place)
    (to_there : IsTrue (has s.chunks to)) (n : ℕ) (m : Layout)
    (is : m ≡ put_at x.lists.layout to 0 (resized (contents_at x.lists.layout.contents from).bytes n) true) where
  put : m ≡ put_at x.lists.layout to 0 (resized (contents_at s.chunks from).bytes n) true
  put = is ∙ ap (λ (p : ChunkContents). put_at x.lists.layout to 0 (resized p.bytes n) true) (seen x ok s e from there)

  pub fields-resized : AreFields (record {
    lists = record { layout = m; heads = x.lists.heads };
    active = x.active;
    next = x.next;
    first =
        x.first;
  })
  fields-resized = fields-put x ok s e to to_there 0 (resized (contents_at s.chunks from).bytes n) m put

  pub state-resized : set_of (record {
    lists = record { layout = m; heads = x.lists.heads };
    active = x.active;
    next = x.next;
    first =
        x.first;
  }) ≡ set_put s to (resized (contents_at s.chunks from).bytes n)
  state-resized = state-put x ok s e to to_there 0 (resized (contents_at s.chunks from).bytes n) m put

-- a live chunk, at the place that was asked of its name
module _ (x : Inside) (ok : AreFields x) (s : SetState) (e : set_of x ≡ s) (name : ChunkName) (lives : IsTrue (is_live s.chunks name))
    (at : Place) (is : at ≡ place_of name) where
  there : IsTrue (has s.chunks (place_of name))
  there = name-there s.chunks name lives

  pub asked-there : IsTrue (has x.lists.layout.contents at)
  asked-there = subst (λ (p : Place). IsTrue (has x.lists.layout.contents p)) (sym is) (seen-there x ok s e (place_of name) there)

  asked-contents : contents_at x.lists.layout.contents at ≡ contents_at s.chunks (place_of name)
  asked-contents = ap (λ (p : Place). contents_at x.lists.layout.contents p) is ∙ seen x ok s e (place_of name) there

  pub asked-len : length (contents_at x.lists.layout.contents at).bytes ≡ name.len
  asked-len = ap (λ (p : ChunkContents). length p.bytes) asked-contents ∙ name-len s.chunks name lives

  pub asked-bytes : (contents_at x.lists.layout.contents at).bytes ≡ bytes_of s.chunks name
  asked-bytes = ap (λ (p : ChunkContents). p.bytes) asked-contents

-- a block more
pub total-taken : (s : SetState) (l t : Layout) (b size : ℕ) → l.blocks ≡ s.blocks → get_or l.blocks b None ≡ None → t.blocks
    ≡ with_block l.blocks b size → total t.blocks ≡ total s.blocks + size
total-taken s l t b size same none is = ap total is ∙ total-with_block l.blocks b size none
    ∙ ap (λ (z : List (Option ℕ)). total z + size) same
