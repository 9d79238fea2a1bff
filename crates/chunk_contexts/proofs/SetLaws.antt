-- What holds of the fields of an `AllocSet` after its chunks and blocks changed.
use Rattle.std.proofs.Common.{◌≡◌, ◌≢◌, ℕ, ◌+◌, ◌<◌, ◌≤◌, ◌⊎◌, inl, inr, Bool, true, false, not, List, [], ◌∷◌, ◌++◌, Option, Some, None}
use Rattle.std.proofs.Common.{length, get_or, set, take, cond, refl, sym, ap, ◌∙◌, subst, arith}
use Rattle.chunk_contexts.proofs.Words.{IsTrue, is_some, unwrap_or, ◌==◌, Every, Pairwise, Layout, ChunkContents, is_at, has, contents_at}
use Rattle.chunk_contexts.proofs.Words.{no_contents, without, outside, put_at, with_block, size_at, Place, Active, rooms, rooms_down}
use Rattle.chunk_contexts.proofs.Words.{room_of}
use Rattle.chunk_contexts.proofs.Words.{by_room, is_in, first_free, Linked, Elsewhere, AreLists, IsRest, cut_chunks, IsLinkable, LARGEST}
use Rattle.chunk_contexts.proofs.Laws.{false≢true, eq-eqb, ne_eqb, not-true, get_or-set_other, every_passes, every_filter, every_weaker}
use Rattle.chunk_contexts.proofs.Laws.{every_both, pairwise_filter, first_has, first_passes, same-place, with_block-here, with_block-other}
use Rattle.chunk_contexts.proofs.Laws.{without-none, nat_tests, common_steps}
use Rattle.std.specs.List.{filter}
use Rattle.chunk_contexts.specs.Set.{or_first}
use Rattle.chunk_contexts.specs.SetFields.{IsSet, IsSetChunk, Alone}
use Rattle.chunk_contexts.proofs.ClassLaws.{in-small, in-some}
use Rattle.chunk_contexts.proofs.FreeLaws.{IsLiveAt, pairwise-found, linked-kept, first_free-kept}
use Rattle.chunk_contexts.proofs.ListLaws.{lists-new}
use Rattle.chunk_contexts.proofs.CutLaws.{rest-none, none-at, cut-every, cut-alone, down-known}

pub some-block : (blocks : List (Option ℕ)) (b : ℕ) → 0 < size_at blocks b → IsTrue (is_some (get_or blocks b None))
some-block blocks b big = grind (arith, nat_tests, common_steps)

-- the blocks that are there are others than a new one, and stay
pub not-new : (blocks : List (Option ℕ)) (b : ℕ) → get_or blocks b None ≡ None → (c : ℕ) → IsTrue (is_some (get_or blocks c None)) → c ≢ b
not-new blocks b none c some e = false≢true (sym (ap is_some (ap (λ (k : ℕ). get_or blocks k None) e ∙ none)) ∙ some)

pub same-others : (blocks : List (Option ℕ)) (b size : ℕ) → get_or blocks b None ≡ None → b ≤ length blocks → (c : ℕ)
    → IsTrue (is_some (get_or blocks c None)) → get_or (with_block blocks b size) c None ≡ get_or blocks c None
same-others blocks b size none low c some = with_block-other blocks b c size low (not-new blocks b none c some)

pub alone-sym : (p q : ChunkContents) → Alone p q → Alone q p
alone-sym p q a h e = a (elim h [ inl x ↦ inr x | inr y ↦ inl y ]) (sym e)

-- what holds of the chunk at a place and of all others holds of all
pub every-join : (P : ChunkContents → Type 0) (place : Place) (ps : List ChunkContents) → Every (λ (p : ChunkContents). is_at place p ≡ true
    → P p) ps → Every P (without ps place) → Every P ps
every-join P place [] at others = tt
every-join P place (p ∷ ps) at others = grind (arith, nat_tests, common_steps, every-join P place ps at.1)

pub every-always : {X : Type 0} (P : X → Type 0) → ((x : X) → P x) → (xs : List X) → Every P xs
every-always P h [] = tt
every-always P h (x ∷ xs) = (h x, every-always P h xs)

-- two tests that agree at each element
pub filter-same : {X : Type 0} (f g : X → Bool) (xs : List X) → Every (λ (x : X). f x ≡ g x) xs → filter f xs ≡ filter g xs
filter-same f g [] every = refl
filter-same {X} f g (x ∷ xs) every = λ i. cond (every.0 i) (x ∷ filter-same f g xs every.1 i) (filter-same f g xs every.1 i)

module _ (l : Layout) (heads : List (Option Place)) (active : Active) (first : Option ℕ) (is : IsSet l heads active first) where
  abbrev ps : List ChunkContents
  ps = l.contents

  one-room : (p : ChunkContents) → IsSetChunk l.blocks active first p → 1 ≤ p.room
  one-room p g = grind (arith, nat_tests, common_steps, in-some p.room)

  pub set-rest : IsRest l active
  set-rest =
      let rooms : Every (λ (p : ChunkContents). 1 ≤ p.room) ps = every_weaker (IsSetChunk l.blocks active first)
      (λ (p : ChunkContents). 1 ≤ p.room) one-room ps is.good in
      let clear : Every (λ (p : ChunkContents). 0 < active.size → p.place.block ≡ active.block → p.place.offset + p.room ≤ active.used) ps =
      every_weaker (IsSetChunk l.blocks active first) _ (λ p g. g.used) ps is.good in
      assumption (rooms, clear)

  -- ---- a chunk is cut from the block in use
  module _ (room : ℕ) (known : is_in room rooms ≡ true) (fits : active.used + 8 + room ≤ active.size) where
    abbrev p : ChunkContents
    p = record { place = record { block = active.block; offset = active.used + 8 }; room = room; is_live = true; bytes = [] }

    abbrev more : Active
    more = record { block = active.block; used = active.used + 8 + room; size = active.size }

    abbrev carved : Layout
    carved = record { head = 8; blocks = l.blocks; contents = p ∷ ps }

    not_empty : 0 < active.size
    not_empty = omega (arith, fits)

    fresh : has ps p.place ≡ false
    fresh = rest-none l active set-rest 8 room (omega (arith, in-some room known)) fits

    links : IsLinkable p.place
    links = record { block = is.block; some = omega arith; offset = omega (arith, fits, is.bound) }

    pub set-carved : IsSet carved heads more first
    set-carved =
        let lists : AreLists carved heads = subst (λ (z : Layout). AreLists z heads)
        (λ i. record { head = is.lists.links.head i; blocks = l.blocks; contents = p ∷ without-none ps p.place fresh i })
        (lists-new l heads is.lists p refl fresh links) in
        let alone : Every (Alone p) ps = every_weaker (IsSetChunk l.blocks active first) (Alone p)
        (λ q g. grind (arith, nat_tests, in-small room known, not_empty)) ps is.good in
        let good : Every (IsSetChunk l.blocks more first) ps = every_weaker (IsSetChunk l.blocks active first)
        (IsSetChunk l.blocks more first) (λ q g. grind (arith, nat_tests)) ps is.good in
        grind (arith, nat_tests, lists, alone, good, some-block l.blocks active.block, not_empty, in-small room known)

  -- ---- a chunk is written, freed or taken again
  module _ (place : Place) (there : has ps place ≡ true) where
    abbrev t : ChunkContents
    t = contents_at ps place

    at : t.place ≡ place
    at = same-place t.place place (first_passes (is_at place) no_contents ps there)

    good-t : IsSetChunk l.blocks active first t
    good-t = first_has (IsSetChunk l.blocks active first) (is_at place) no_contents ps there is.good

    alone-t : Every (Alone t) (without ps place)
    alone-t = pairwise-found Alone alone-sym ps place there is.lists.links.places is.alone

    pub set-put : (kept : ℕ) (bytes : List ℕ) (lives : Bool) (heads' : List (Option Place)) → (lives ≡ true) ⊎ (t.room ≤ LARGEST)
        → AreLists (put_at l place kept bytes lives) heads' → IsSet (put_at l place kept bytes lives) heads' active first
    set-put kept bytes lives heads' ok lists =
        let q : ChunkContents = record { place = place; room = t.room; is_live = lives; bytes = take kept t.bytes ++ bytes } in
        let alone : Every (Alone q) (without ps place) = every_weaker (Alone t) (Alone q) (λ x a h e. a h (ap (λ (y : Place). y.block) at
        ∙ e)) (without ps place) alone-t in
        let good : IsSetChunk l.blocks active first q = grind (arith, nat_tests, good-t, at) in
        grind (
          arith,
          nat_tests,
          alone,
          good,
          pairwise_filter Alone (λ (p : ChunkContents). not (is_at place p)) ps is.alone,
          every_filter
              (IsSetChunk l.blocks active first) (λ (p : ChunkContents). not (is_at place p)) ps is.good,
        )

    -- ---- a large chunk's block goes back
    module _ (was : IsLiveAt ps place) (big : LARGEST < t.room) where
      abbrev b : ℕ
      b = place.block

      block-is : t.place.block ≡ b
      block-is = ap (λ (x : Place). x.block) at

      abbrev back : Layout
      back = record { head = l.head; blocks = set l.blocks b None; contents = outside ps b }

      -- no other chunk is in its block
      pub outside-is : outside ps b ≡ without ps place
      outside-is = filter-same (λ (q : ChunkContents). not (q.place.block == b)) (λ (q : ChunkContents). not (is_at place q)) ps
          (every-join (λ (q : ChunkContents). not (q.place.block == b) ≡ not (is_at place q)) place ps
          (every-always (λ (q : ChunkContents). is_at place q ≡ true → not (q.place.block == b) ≡ not (is_at place q))
          (λ q here. ap not (eq-eqb q.place.block b (ap (λ (x : Place). x.block) (same-place q.place place here)) ∙ sym here)) ps)
          (every_both (Alone t) (λ (q : ChunkContents). not (is_at place q) ≡ true) (λ (q : ChunkContents). not (q.place.block == b)
          ≡ not (is_at place q))
          (λ q a away. ap not (ne_eqb q.place.block b (λ e. a (inl big) (block-is ∙ sym e)) ∙ sym (not-true (is_at place q) away)))
          (without ps place) alone-t (every_passes (λ (q : ChunkContents). not (is_at place q)) ps)))

      good-other : (q : ChunkContents) → IsSetChunk l.blocks active first q → not (q.place.block == b) ≡ true
          → IsSetChunk (set l.blocks b None) active first q
      good-other q g away = grind (arith, nat_tests, common_steps)

      pub set-back : IsSet back heads active first
      set-back = record {
        lists = record {
          links = record {
            head = is.lists.links.head;
            places = pairwise_filter Elsewhere _ ps is.lists.links.places;
            ranges = every_filter _ _ ps is.lists.links.ranges;
            linked = subst (Linked by_room) (sym outside-is) (linked-kept by_room ps place was.only is.lists.links.linked);
          };
          count = is.lists.count;
          firsts = λ class low. is.lists.firsts class low ∙ sym (first_free-kept by_room (room_of class) ps place was.only)
              ∙ ap (first_free by_room (room_of class)) (sym outside-is);
        };
        alone = pairwise_filter Alone _ ps is.alone;
        good = every_both (IsSetChunk l.blocks active first) (λ (q : ChunkContents). not (q.place.block == b)
            ≡ true) (IsSetChunk (set l.blocks b None) active first) good-other (outside ps b)
            (every_filter (IsSetChunk l.blocks active first) _ ps is.good) (every_passes (λ (q : ChunkContents). not (q.place.block == b))
            ps);
        size = λ some. is.size some
            ∙ ap (λ (o : Option ℕ). unwrap_or o 0)
            (sym (get_or-set_other l.blocks b active.block None None (λ e. (good-t.large big).1.0 some (block-is ∙ sym e))));
        used = is.used;
        bound = is.bound;
        block = is.block;
        start = λ f e. let other = get_or-set_other l.blocks b f None None
            (λ same. (good-t.large big).1.1 (e ∙ ap Some (same ∙ sym block-is))) in
            let h = is.start f e in (
              subst (λ (o : Option ℕ). IsTrue (is_some o)) (sym other) h.0,
              subst (λ (o : Option ℕ). unwrap_or o 0 ≤ 1048576) (sym other) h.1,
            );
      }

  -- ---- a block is taken
  module _ (b size : ℕ) (none : get_or l.blocks b None ≡ None) (low : b ≤ length l.blocks) (name : b < 4294967296) where
    abbrev blocks' : List (Option ℕ)
    blocks' = with_block l.blocks b size

    active-some : 0 < active.size → IsTrue (is_some (get_or l.blocks active.block None))
    active-some some = some-block l.blocks active.block (omega (arith, is.size some, some))

    pub elsewhere-all : Every (λ (q : ChunkContents). q.place.block ≢ b) ps
    elsewhere-all = every_weaker (IsSetChunk l.blocks active first) (λ (q : ChunkContents). q.place.block ≢ b)
        (λ q g. not-new l.blocks b none q.place.block g.there) ps is.good

    pub size-here : size_at blocks' b ≡ size
    size-here = ap (λ (o : Option ℕ). unwrap_or o 0) (with_block-here l.blocks b size low)

    pub rest-taken : IsRest (record { head = l.head; blocks = blocks'; contents = ps }) active
    rest-taken = grind (arith, nat_tests, common_steps, set-rest, same-others l.blocks b size none low active.block)

    start-kept : (f : ℕ) → first ≡ Some f → IsTrue (is_some (get_or blocks' f None)) × (size_at blocks' f ≤ 1048576)
    start-kept f e = let h = is.start f e in let other = same-others l.blocks b size none low f h.0 in
        (subst (λ (o : Option ℕ). IsTrue (is_some o)) (sym other) h.0, subst (λ (o : Option ℕ). unwrap_or o 0 ≤ 1048576) (sym other) h.1)

    -- for a chunk of its own
    module _ (room : ℕ) (big : LARGEST < room) where
      abbrev own : ChunkContents
      own = record { place = record { block = b; offset = 8 }; room = room; is_live = true; bytes = [] }

      abbrev alone' : Layout
      alone' = record { head = 8; blocks = blocks'; contents = own ∷ ps }

      pub own-fresh : has ps own.place ≡ false
      own-fresh = none-at own.place ps (every_weaker (λ (q : ChunkContents). q.place.block ≢ b) (λ (q : ChunkContents). q.place ≡ own.place
          → ⊥) (λ q ne e. ne (ap (λ (x : Place). x.block) e)) ps elsewhere-all)

      pub set-dedicated : IsSet alone' heads active first
      set-dedicated =
          let lists = lists-new l heads is.lists own refl own-fresh (record { block = name; some = omega arith; offset = omega arith }) in
          let rest = without-none ps own.place own-fresh in
          grind (
            arith,
            nat_tests,
            common_steps,
            every_weaker (λ (q : ChunkContents). q.place.block ≢ b) (Alone own)
                (λ q ne h e. ne (sym e)) ps elsewhere-all,
            elsewhere-all,
            with_block-here l.blocks b size low,
            not-new l.blocks b none
                active.block,
            active-some,
            not-new l.blocks b none b,
            every_weaker (IsSetChunk l.blocks active first)
                (IsSetChunk blocks' active first),
            same-others l.blocks b size none low,
            same-others l.blocks b size none low active.block,
            start-kept,
          )

    -- to be the block in use
    module _ (fits : size ≤ 1048576) (heads' : List (Option Place)) where
      abbrev next : Active
      next = record { block = b; used = 0; size = size }

      abbrev first' : Option ℕ
      first' = or_first first b

      abbrev cut : List ChunkContents
      cut = cut_chunks rooms_down active.block active.used active.size ps

      good-next : (q : ChunkContents) → IsTrue (is_some (get_or l.blocks q.place.block None))
          → (q.room ≤ LARGEST → IsTrue (is_in q.room rooms)) → (LARGEST < q.room → (q.is_live ≡ true) × (first ≢ Some q.place.block))
          → IsSetChunk blocks' next first' q
      good-next q there small large = grind (arith, nat_tests, common_steps, same-others l.blocks b size none low q.place.block there)

      good-cut : Every (IsSetChunk blocks' next first') cut
      good-cut = cut-every (IsSetChunk blocks' next first') active.block active.size
          (λ room used bytes known fit. good-next
          (record { place = record { block = active.block; offset = used + 8 }; room = room; is_live = false; bytes = bytes })
          (active-some (omega (arith, fit))) (λ _. known) (λ big. absurd (omega (arith, big, in-small room known))))
          rooms_down down-known active.used ps
          (every_weaker (IsSetChunk l.blocks active first) (IsSetChunk blocks' next first')
          (λ q g. good-next q g.there g.small (λ big. ((g.large big).0, (g.large big).1.1))) ps is.good)

      alone-cut : Pairwise Alone cut
      alone-cut = cut-alone active.block active.size rooms_down down-known active.used ps
          (every_weaker (IsSetChunk l.blocks active first) (λ (q : ChunkContents). 0 < active.size → LARGEST < q.room
          → q.place.block ≢ active.block) (λ q g some big. (g.large big).1.0 some) ps is.good) is.alone

      pub set-grown : AreLists (record { head = 8; blocks = blocks'; contents = cut }) heads'
          → IsSet (record { head = 8; blocks = blocks'; contents = cut }) heads' next first'
      set-grown lists = record {
        lists = lists;
        alone = alone-cut;
        good = good-cut;
        size = λ _. sym size-here;
        used = omega arith;
        bound = fits;
        block = name;
        start = start-next first refl;
      }
        where
          start-next : (f : Option ℕ) → f ≡ first → (k : ℕ) → or_first f b ≡ Some k → IsTrue (is_some (get_or blocks' k None))
              × (size_at blocks' k ≤ 1048576)
          start-next None _ k e =
              let same : b ≡ k = some-eq b k e in (
                subst (λ (c : ℕ). IsTrue (is_some (get_or blocks' c None))) same (ap is_some (with_block-here l.blocks b size low)),
                subst (λ (c : ℕ). size_at blocks' c ≤ 1048576) same (omega (arith, size-here, fits)),
              )
            where
              some-eq : (x y : ℕ) → Some x ≡ Some y → x ≡ y
              some-eq x y same = cc
          start-next (Some f) is' k e = start-kept k (sym is' ∙ e)
