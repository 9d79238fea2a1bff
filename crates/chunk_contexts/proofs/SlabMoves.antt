-- The account of a slab's blocks, after a chunk is taken or given up, or a block.
use Rattle.std.proofs.Common.{◌≡◌, ◌≢◌, ℕ, zero, suc, ◌+◌, ◌*◌, ◌-◌, ◌<◌, ◌≤◌, inl, inr, Bool, true, false, not, List, [], ◌∷◌, ◌++◌}
use Rattle.std.proofs.Common.{Option, Some, None, length, get_or, set, take, cond, refl, sym, ap, ◌∙◌, subst, arith}
use Rattle.chunk_contexts.proofs.Words.{IsTrue, is_some, unwrap_or, nat_lt, ◌==◌, ◌&&◌, Every, Pairwise, Layout, ChunkContents, is_at, has}
use Rattle.chunk_contexts.proofs.Words.{contents_at, no_contents, without, outside, put_at, rewritten, size_at, with_block, layout_with}
use Rattle.chunk_contexts.proofs.Words.{Place}
use Rattle.chunk_contexts.proofs.Words.{live, rounded, by_block, first_free, Linked, Elsewhere, AreLinked, link_bytes}
use Rattle.chunk_contexts.proofs.Laws.{cases_eq, cond-true, cond-false, eq-eqb, ne_eqb, lt-ltb, and_parts, ltb-true, false≢true, eqb-false}
use Rattle.chunk_contexts.proofs.Laws.{not-true, get_or-set_same, get_or-set_other, length-set, every_weaker, every_both, every_filter}
use Rattle.chunk_contexts.proofs.Laws.{every_passes, first_has, first_passes, pairwise_filter, same-place, with_block-here}
use Rattle.chunk_contexts.proofs.Laws.{with_block-other, length-with_block, nat_tests, common_steps}
use Rattle.chunk_contexts.specs.Generation.{in_block}
use Rattle.chunk_contexts.specs.Slab.{slab_block, per_block, spare_from, no_block, IsSlabLayout, IsEntry, IsSlab}
use Rattle.chunk_contexts.specs.declared.slab_chunks.SlabBlock.{SlabBlock}
use Rattle.chunk_contexts.proofs.FreeLaws.{IsLiveAt, live-found, live-outside, live-without}
use Rattle.chunk_contexts.proofs.RunMoves.{every-rewritten}
use Rattle.chunk_contexts.proofs.GenLaws.{in-none, in-without_here, in-without_other, outside-none}
use Rattle.chunk_contexts.proofs.GenMoves.{in-put, in-rewritten}
use Rattle.chunk_contexts.proofs.OverLaws.{rewritten-map, links-over, first_free-over, live-over}
use Rattle.chunk_contexts.proofs.SlabLaws.{slab-put, per-some}
use Rattle.chunk_contexts.proofs.LinkLaws as Link

pub spare-none : (per : ℕ) (chunks : List ChunkContents) (block : ℕ) (bs : List (Option ℕ))
    → ((j : ℕ) → (is_some (get_or bs j None) && nat_lt (in_block chunks (block + j)) per) ≡ false) → spare_from per chunks block bs ≡ false
spare-none per chunks block [] none = refl
spare-none per chunks block (b ∷ bs) none =
    let rest = spare-none per chunks (block + 1) bs (λ j. grind (arith, nat_tests, none (suc j))) in
    grind (arith, nat_tests, none 0, rest)

pub spare-some : (per : ℕ) (chunks : List ChunkContents) (block : ℕ) (bs : List (Option ℕ)) (j : ℕ)
    → (is_some (get_or bs j None) && nat_lt (in_block chunks (block + j)) per) ≡ true → spare_from per chunks block bs ≡ true
spare-some per chunks block [] j some = absurd (false≢true some)
spare-some per chunks block (b ∷ bs) zero some = grind (arith, nat_tests, common_steps)
spare-some per chunks block (b ∷ bs) (suc j) some = grind (arith, nat_tests, common_steps, spare-some per chunks (block + 1) bs j)

-- ---- a block whose chunks are left out
in-outside_here : (ps : List ChunkContents) (k : ℕ) → in_block (outside ps k) k ≡ 0
in-outside_here [] k = refl
in-outside_here (p ∷ ps) k = grind (arith, nat_tests, common_steps, in-outside_here ps k)

in-outside_other : (ps : List ChunkContents) (k j : ℕ) → j ≢ k → in_block (outside ps k) j ≡ in_block ps j
in-outside_other [] k j ne = refl
in-outside_other (p ∷ ps) k j ne = grind (arith, nat_tests, common_steps, in-outside_other ps k j ne)

first-outside_here : (ps : List ChunkContents) (k : ℕ) → first_free by_block k (outside ps k) ≡ None
first-outside_here [] k = refl
first-outside_here (p ∷ ps) k = grind (arith, nat_tests, common_steps, first-outside_here ps k)

first-outside_other : (ps : List ChunkContents) (k j : ℕ) → j ≢ k → first_free by_block j (outside ps k) ≡ first_free by_block j ps
first-outside_other [] k j ne = refl
first-outside_other (p ∷ ps) k j ne = grind (arith, nat_tests, common_steps, first-outside_other ps k j ne)

linked-outside : (ps : List ChunkContents) (k : ℕ) → Linked by_block ps → Linked by_block (outside ps k)
linked-outside [] k linked = tt
linked-outside (p ∷ ps) k linked = grind (
  arith,
  nat_tests,
  common_steps,
  linked-outside ps k linked.1,
  first-outside_other ps k
      p.place.block,
)

outside-without : (ps : List ChunkContents) (place : Place) → outside (without ps place) place.block ≡ outside ps place.block
outside-without [] place = refl
outside-without (p ∷ ps) place = grind (arith, nat_tests, common_steps, outside-without ps place)

module _ (size count : ℕ) (l : Layout) (kept : List SlabBlock) (marked : List Bool) (is : IsSlab size count l kept marked) where
  abbrev ps : List ChunkContents
  ps = l.contents

  abbrev room : ℕ
  room = rounded size

  -- the marks tell which blocks have a free chunk
  pub mark-is : (k : ℕ) → get_or marked k false ≡ (is_some (get_or l.blocks k None) && nat_lt (in_block (live ps) k) (per_block room))
  mark-is k = is.marks k ∙ (λ i. is_some (get_or l.blocks k None) && nat_lt ((is.entries k).live i) (is.per i))

  pub spare-unmarked : ((k : ℕ) → get_or marked k false ≡ false) → spare_from (per_block room) (live ps) 0 l.blocks ≡ false
  spare-unmarked none = spare-none (per_block room) (live ps) 0 l.blocks (λ j. let at : 0 + j
      ≡ j = omega arith in ap (λ (k : ℕ). is_some (get_or l.blocks j None) && nat_lt (in_block (live ps) k) (per_block room)) at
      ∙ sym (mark-is j) ∙ none j)

  pub spare-marked : (k : ℕ) → get_or marked k false ≡ true → spare_from (per_block room) (live ps) 0 l.blocks ≡ true
  spare-marked k some = spare-some (per_block room) (live ps) 0 l.blocks k (let at : 0 + k
      ≡ k = omega arith in ap (λ (j : ℕ). is_some (get_or l.blocks k None) && nat_lt (in_block (live ps) j) (per_block room)) at
      ∙ sym (mark-is k) ∙ some)

  pub marked-there : (k : ℕ) → get_or marked k false ≡ true → IsTrue (is_some (get_or l.blocks k None))
  marked-there k some = (and_parts (is_some (get_or l.blocks k None)) (nat_lt (get_or kept k no_block).live count) (sym (is.marks k)
      ∙ some)).0

  pub marked-few : (k : ℕ) → get_or marked k false ≡ true → (get_or kept k no_block).live < count
  marked-few k some = ltb-true (get_or kept k no_block).live count
      ((and_parts (is_some (get_or l.blocks k None)) (nat_lt (get_or kept k no_block).live count) (sym (is.marks k) ∙ some)).1)

  pub there-low : (k : ℕ) → IsTrue (is_some (get_or l.blocks k None)) → k < length l.blocks
  there-low k some = grind (arith, nat_tests, common_steps)

  -- other bytes, or other chunks that are counted the same
  pub slab-same : (m : Layout) → IsSlabLayout size m → ((j : ℕ) (e : SlabBlock) → IsEntry ps j e → IsEntry m.contents j e) → m.blocks
      ≡ l.blocks → IsSlab size count m kept marked
  slab-same m layout same blocks =
      let entries : (k : ℕ) → IsEntry m.contents k (get_or kept k no_block) = λ k. same k (get_or kept k no_block) (is.entries k) in
      grind (arith, nat_tests, entries)

  -- longer lists
  pub slab-longer : (kept' : List SlabBlock) (marked' : List Bool) → ((k : ℕ) → get_or kept' k no_block ≡ get_or kept k no_block)
      → length kept ≤ length kept' → ((k : ℕ) → get_or marked' k false ≡ get_or marked k false) → length marked ≤ length marked'
      → IsSlab size count l kept' marked'
  slab-longer kept' marked' same longer same-marks longer-marks = grind (arith, nat_tests, common_steps)

  -- something else is kept of one block
  module _ (k : ℕ) (m : Layout) (e : SlabBlock) (marked' : List Bool) (layout : IsSlabLayout size m) (here : IsEntry m.contents k e)
      (at-most : e.live ≤ count) (others : (j : ℕ) → j ≢ k → (b : SlabBlock) → IsEntry ps j b → IsEntry m.contents j b)
      (blocks : (j : ℕ) → j ≢ k → get_or m.blocks j None ≡ get_or l.blocks j None) (low : k < length kept)
      (few : length m.blocks ≤ length kept) (long : length marked' ≡ length marked) (few' : length m.blocks ≤ length marked)
      (marked-k : get_or marked' k false ≡ (is_some (get_or m.blocks k None) && nat_lt e.live count)) (marked-other : (j : ℕ) → j ≢ k
      → get_or marked' j false ≡ get_or marked j false) where
    at-k : get_or (set kept k e) k no_block ≡ e
    at-k = get_or-set_same kept k e no_block low

    at-other : (j : ℕ) → j ≢ k → get_or (set kept k e) j no_block ≡ get_or kept j no_block
    at-other j ne = get_or-set_other kept k j e no_block ne

    pub slab-set : IsSlab size count m (set kept k e) marked'
    slab-set = record {
      small = is.small;
      per = is.per;
      layout = layout;
      entries = λ j. elim (cases_eq j k) [
        | inl same ↦ subst (λ (i : ℕ). IsEntry m.contents i (get_or (set kept k e) i no_block)) (sym same)
            (subst (IsEntry m.contents k) (sym at-k) here)
        | inr ne ↦ subst (IsEntry m.contents j) (sym (at-other j ne)) (others j ne (get_or kept j no_block) (is.entries j))
      ];
      few = λ j. elim (cases_eq j k) [
        | inl same ↦ subst (λ (i : ℕ). (get_or (set kept k e) i no_block).live ≤ count) (sym same)
            (subst (λ (b : SlabBlock). b.live ≤ count) (sym at-k) at-most)
        | inr ne ↦ subst (λ (b : SlabBlock). b.live ≤ count) (sym (at-other j ne)) (is.few j)
      ];
      long = omega (arith, few, length-set kept k e);
      long_marks = omega (arith, few', long);
      marks = λ j. elim (cases_eq j k) [
        | inl same ↦ subst (λ (i : ℕ). get_or marked' i false
            ≡ (is_some (get_or m.blocks i None) && nat_lt (get_or (set kept k e) i no_block).live count)) (sym same)
            (marked-k ∙ ap (λ (b : SlabBlock). is_some (get_or m.blocks k None) && nat_lt b.live count) (sym at-k))
        | inr ne ↦ marked-other j ne ∙ is.marks j ∙ (λ i. is_some (sym (blocks j ne) i) && nat_lt (sym (at-other j ne) i).live count)
      ];
    }

  -- ---- a block is taken
  module _ (b : ℕ) (none : get_or l.blocks b None ≡ None) (b-low : b ≤ length l.blocks) (m : Layout) (made : m
      ≡ record { head = l.head; blocks = with_block l.blocks b (slab_block room); contents = ps })
      (kept-low : length l.blocks < length kept) (marked-low : length l.blocks < length marked) (marked' : List Bool) (long : length marked'
      ≡ length marked)
      (marks' : (k : ℕ) → get_or marked' k false ≡ cond (k == b) true (get_or marked k false)) where
    abbrev blocks' : List (Option ℕ)
    blocks' = with_block l.blocks b (slab_block room)

    elsewhere : Every (λ (q : ChunkContents). q.place.block ≢ b) ps
    elsewhere = every_weaker (λ (q : ChunkContents). IsTrue (is_some (get_or l.blocks q.place.block None)))
        (λ (q : ChunkContents). q.place.block ≢ b)
        (λ q some e. false≢true (sym (ap is_some (ap (λ (k : ℕ). get_or l.blocks k None) e ∙ none)) ∙ some)) ps is.layout.there

    other-block : (j : ℕ) → j ≢ b → get_or blocks' j None ≡ get_or l.blocks j None
    other-block j ne = with_block-other l.blocks b j (slab_block room) b-low ne

    this-block : get_or blocks' b None ≡ Some (slab_block room)
    this-block = with_block-here l.blocks b (slab_block room) b-low

    grown-layout : IsSlabLayout size (record { head = l.head; blocks = blocks'; contents = ps })
    grown-layout = record {
      links = record {
        head = is.layout.links.head;
        places = is.layout.links.places;
        ranges = is.layout.links.ranges;
        linked =
            is.layout.links.linked;
      };
      rooms = is.layout.rooms;
      there = every_both (λ (q : ChunkContents). IsTrue (is_some (get_or l.blocks q.place.block None)))
          (λ (q : ChunkContents). q.place.block ≢ b) (λ (q : ChunkContents). IsTrue (is_some (get_or blocks' q.place.block None)))
          (λ q some ne. subst (λ (o : Option ℕ). IsTrue (is_some o)) (sym (other-block q.place.block ne)) some) ps is.layout.there
          elsewhere;
      sizes = λ j some. elim (cases_eq j b) [
        | inl same ↦ ap (λ (k : ℕ). size_at blocks' k) same ∙ ap (λ (o : Option ℕ). unwrap_or o 0) this-block
        | inr ne ↦ ap (λ (o : Option ℕ). unwrap_or o 0) (other-block j ne)
            ∙ is.layout.sizes j (subst (λ (o : Option ℕ). IsTrue (is_some o)) (other-block j ne) some)
      ];
      ends = is.layout.ends;
    }

    none-live : (get_or kept b no_block).live ≡ 0
    none-live = (is.entries b).live
        ∙ in-none (live ps) b (every_filter (λ (q : ChunkContents). q.place.block ≢ b) (λ (q : ChunkContents). q.is_live) ps elsewhere)

    grown-mark : (j : ℕ) → get_or marked' j false ≡ (is_some (get_or blocks' j None) && nat_lt (get_or kept j no_block).live count)
    grown-mark j = grind (arith, nat_tests, marks' j, is.marks j, this-block, other-block j, none-live, per-some room)

    pub slab-grown : IsSlab size count m kept marked'
    slab-grown = grind (arith, nat_tests, grown-layout, grown-mark, length-with_block l.blocks b (slab_block room))

  -- ---- a live chunk
  module _ (place : Place) (there : has (live ps) place ≡ true) where
    abbrev k : ℕ
    k = place.block

    was : IsLiveAt ps place
    was = live-found ps place is.layout.links.places there

    pub live-there : has ps place ≡ true
    live-there = was.there

    pub live-room : (contents_at ps place).room ≡ room
    live-room = first_has (λ (p : ChunkContents). p.room ≡ room) (is_at place) no_contents ps was.there is.layout.rooms

    pub live-block : IsTrue (is_some (get_or l.blocks k None))
    live-block = subst (λ (x : Place). IsTrue (is_some (get_or l.blocks x.block None)))
        (same-place (contents_at ps place).place place (first_passes (is_at place) no_contents ps was.there))
        (first_has (λ (p : ChunkContents). IsTrue (is_some (get_or l.blocks p.place.block None))) (is_at place) no_contents ps was.there
        is.layout.there)

    places-live : Pairwise Elsewhere (live ps)
    places-live = pairwise_filter Elsewhere (λ (p : ChunkContents). p.is_live) ps is.layout.links.places

    pub fewer : in_block (without (live ps) place) k + 1 ≡ (get_or kept k no_block).live
    fewer = in-without_here (live ps) place there places-live ∙ sym (is.entries k).live

    -- other bytes
    module _ (bytes : List ℕ) (n : ℕ) (m : Layout) (made : m ≡ put_at l place n bytes true) where
      abbrev q : ChunkContents
      q = record { place = place; room = (contents_at ps place).room; is_live = true; bytes = take n (contents_at ps place).bytes ++ bytes }

      pub slab-written : IsSlab size count m kept marked
      slab-written = subst (λ (z : Layout). IsSlab size count z kept marked) (sym made) (slab-same (put_at l place n bytes true)
          (slab-put size l is.layout place was.there n bytes true (Link.links-put by_block l is.layout.links place there n bytes))
          (λ j e entry. record {
            free = entry.free ∙ sym (Link.first-put by_block l is.layout.links place there n bytes j);
            cut = entry.cut ∙ sym (in-put ps place q j was.there is.layout.links.places refl);
            live = entry.live ∙ sym (ap (λ (t : List ChunkContents). in_block (q ∷ t) j) (live-without ps place)
                ∙ in-put (live ps) place q j there places-live refl);
          }) refl)

    -- it is freed, and others of its block are live
    module _ (m : Layout) (made : m ≡ put_at l place 0 (link_bytes (get_or kept k no_block).free) false)
        (some : 1 < (get_or kept k no_block).live) (marked' : List Bool) (long : length marked' ≡ length marked)
        (marks' : (j : ℕ) → get_or marked' j false ≡ cond (j == k) true (get_or marked j false)) where
      abbrev e : SlabBlock
      e = get_or kept k no_block

      abbrev freed : Layout
      freed = put_at l place 0 (link_bytes (first_free by_block k ps)) false

      made-is : m ≡ freed
      made-is = made ∙ ap (λ (o : Option Place). put_at l place 0 (link_bytes o) false) (is.entries k).free

      abbrev dead : ChunkContents
      dead = record { place = place; room = (contents_at ps place).room; is_live = false; bytes = link_bytes (first_free by_block k ps) }

      abbrev e' : SlabBlock
      e' = record { free = Some place; cut = e.cut; live = e.live - 1 }

      live-freed : live freed.contents ≡ without (live ps) place
      live-freed = live-without ps place

      freed-here : IsEntry freed.contents k e'
      freed-here = grind (
        arith,
        nat_tests,
        Link.first-freed by_block l is.layout.links place there k refl,
        in-put ps place dead k was.there
            is.layout.links.places refl,
        is.entries k,
        fewer,
        live-freed,
      )

      freed-other : (j : ℕ) → j ≢ k → (b : SlabBlock) → IsEntry ps j b → IsEntry freed.contents j b
      freed-other j ne b entry = grind (
        arith,
        nat_tests,
        common_steps,
        Link.first-freed_other by_block l is.layout.links place there k refl
            j ne,
        in-put ps place dead j was.there is.layout.links.places refl,
        live-freed,
        in-without_other (live ps) place j,
      )

      kept-low : k < length kept
      kept-low = omega (arith, there-low k live-block, is.long)

      pub slab-freed : IsSlab size count m (set kept k e') marked'
      slab-freed = subst (λ (z : Layout). IsSlab size count z (set kept k e') marked') (sym made-is)
          (slab-set k freed e' marked' (slab-put size l is.layout place was.there 0 (link_bytes (first_free by_block k ps)) false
          (Link.links-released by_block l is.layout.links place there k refl))
          freed-here (omega (arith, is.few k)) freed-other (λ j ne. refl) kept-low is.long long is.long_marks
          (marks' k ∙ cond-true (k == k) true (get_or marked k false) (eq-eqb k k refl)
          ∙ sym ((λ i. live-block i && nat_lt (e.live - 1) count) ∙ lt-ltb (e.live - 1) count (omega (arith, is.few k, some))))
          (λ j ne. marks' j ∙ cond-false (j == k) true (get_or marked j false) (ne_eqb j k ne)))

      pub chunks-freed : live m.contents ≡ without (live ps) place
      chunks-freed = ap (λ (z : Layout). live z.contents) made-is ∙ live-freed

    -- it is freed, and its block goes back
    module _ (last : (get_or kept k no_block).live ≡ 1) (m : Layout) (made : m
        ≡ record { head = l.head; blocks = set l.blocks k None; contents = outside ps k }) (marked' : List Bool) (long : length marked'
        ≡ length marked)
        (marks' : (j : ℕ) → get_or marked' j false ≡ cond (j == k) false (get_or marked j false)) where
      abbrev back : Layout
      back = record { head = l.head; blocks = set l.blocks k None; contents = outside ps k }

      k-low : k < length l.blocks
      k-low = there-low k live-block

      gone : get_or (set l.blocks k None) k None ≡ None
      gone = get_or-set_same l.blocks k None None k-low

      stays : (j : ℕ) → j ≢ k → get_or (set l.blocks k None) j None ≡ get_or l.blocks j None
      stays j ne = get_or-set_other l.blocks k j None None ne

      away : Every (λ (q : ChunkContents). q.place.block ≢ k) (outside ps k)
      away = every_weaker (λ (q : ChunkContents). not (q.place.block == k) ≡ true) (λ (q : ChunkContents). q.place.block ≢ k)
          (λ q h. eqb-false q.place.block k (not-true (q.place.block == k) h)) (outside ps k)
          (every_passes (λ (q : ChunkContents). not (q.place.block == k)) ps)

      back-layout : IsSlabLayout size back
      back-layout = record {
        links = record {
          head = is.layout.links.head;
          places = pairwise_filter Elsewhere _ ps is.layout.links.places;
          ranges = every_filter _ _ ps is.layout.links.ranges;
          linked = linked-outside ps k is.layout.links.linked;
        };
        rooms = every_filter _ _ ps is.layout.rooms;
        there = every_both (λ (q : ChunkContents). IsTrue (is_some (get_or l.blocks q.place.block None)))
            (λ (q : ChunkContents). q.place.block ≢ k)
            (λ (q : ChunkContents). IsTrue (is_some (get_or (set l.blocks k None) q.place.block None)))
            (λ q some ne. subst (λ (o : Option ℕ). IsTrue (is_some o)) (sym (stays q.place.block ne)) some) (outside ps k)
            (every_filter _ _ ps is.layout.there) away;
        sizes = λ j some. elim (cases_eq j k) [
          | inl same ↦ absurd (false≢true (sym (ap is_some (ap (λ (i : ℕ). get_or (set l.blocks k None) i None) same ∙ gone)) ∙ some))
          | inr ne ↦ ap (λ (o : Option ℕ). unwrap_or o 0) (stays j ne)
              ∙ is.layout.sizes j (subst (λ (o : Option ℕ). IsTrue (is_some o)) (stays j ne) some)
        ];
        ends = every_both (λ (q : ChunkContents). q.place.offset + q.room ≤ in_block ps q.place.block * (8 + room))
            (λ (q : ChunkContents). q.place.block ≢ k) (λ (q : ChunkContents). q.place.offset
            + q.room ≤ in_block (outside ps k) q.place.block * (8 + room))
            (λ q h ne. subst (λ (n : ℕ). q.place.offset + q.room ≤ n * (8 + room)) (sym (in-outside_other ps k q.place.block ne)) h)
            (outside ps k) (every_filter _ _ ps is.layout.ends) away;
      }

      pub chunks-back : live (outside ps k) ≡ without (live ps) place
      chunks-back =
          let none : in_block (without (live ps) place) k ≡ 0 = omega (arith, fewer, last) in
          live-outside ps k ∙ sym (outside-without (live ps) place) ∙ outside-none (without (live ps) place) k none

      pub slab-back : IsSlab size count m (set kept k no_block) marked'
      slab-back = subst (λ (z : Layout). IsSlab size count z (set kept k no_block) marked') (sym made)
          (slab-set k back no_block marked' back-layout
          (record {
            free = sym (first-outside_here ps k);
            cut = sym (in-outside_here ps k);
            live = sym
                (ap (λ (t : List ChunkContents). in_block t k) (live-outside ps k) ∙ in-outside_here (live ps) k);
          })
          (omega arith)
          (λ j ne b entry. record {
            free = entry.free ∙ sym (first-outside_other ps k j ne);
            cut = entry.cut ∙ sym (in-outside_other ps k j ne);
            live = entry.live ∙ sym (ap (λ (t : List ChunkContents). in_block t j) (live-outside ps k) ∙ in-outside_other (live ps) k j ne);
          })
          stays (omega (arith, k-low, is.long)) (omega (arith, is.long, length-set l.blocks k None)) long
          (omega (arith, is.long_marks, length-set l.blocks k None))
          (marks' k ∙ cond-true (k == k) false (get_or marked k false) (eq-eqb k k refl)
          ∙ sym (ap (λ (o : Option ℕ). is_some o && nat_lt 0 count) gone))
          (λ j ne. marks' j ∙ cond-false (j == k) false (get_or marked j false) (ne_eqb j k ne)))

    -- its bytes are written over where they stand
    pub slab-lent : (ws : List ℕ) → IsSlab size count (layout_with l place ws) kept marked
    slab-lent ws =
        let over = rewritten-map place ws ps is.layout.links.places in
        slab-same (layout_with l place ws) (record {
          links = subst (λ (t : List ChunkContents). AreLinked by_block (record { head = l.head; blocks = l.blocks; contents = t }))
              (sym over) (links-over by_block l is.layout.links place ws was.only);
          rooms = every-rewritten (λ (p : ChunkContents). p.room ≡ room) (λ p q at same h. sym same ∙ h) ps place ws is.layout.rooms;
          there = every-rewritten (λ (p : ChunkContents). IsTrue (is_some (get_or l.blocks p.place.block None)))
              (λ p q at same h. subst (λ (x : Place). IsTrue (is_some (get_or l.blocks x.block None))) at h) ps place ws is.layout.there;
          sizes = is.layout.sizes;
          ends = every_weaker (λ (p : ChunkContents). p.place.offset + p.room ≤ in_block ps p.place.block * (8 + room))
              (λ (p : ChunkContents). p.place.offset + p.room ≤ in_block (rewritten ps place ws) p.place.block * (8 + room))
              (λ p h. subst (λ (n : ℕ). p.place.offset + p.room ≤ n * (8 + room)) (sym (in-rewritten ps place ws p.place.block)) h)
              (rewritten ps place ws)
              (every-rewritten (λ (p : ChunkContents). p.place.offset + p.room ≤ in_block ps p.place.block * (8 + room))
              (λ p q at same h. subst (λ (x : Place). x.offset + q.room ≤ in_block ps x.block * (8 + room)) at
              (subst (λ (r : ℕ). p.place.offset + r ≤ in_block ps p.place.block * (8 + room)) same h)) ps place ws is.layout.ends);
        }) (λ j e entry. record {
          free = entry.free ∙ sym (ap (first_free by_block j) over ∙ first_free-over by_block place ws j ps);
          cut = entry.cut ∙ sym (in-rewritten ps place ws j);
          live = entry.live ∙ sym (ap (λ (t : List ChunkContents). in_block t j) (live-over place ws ps is.layout.links.places)
              ∙ in-rewritten (live ps) place ws j);
        }) refl
