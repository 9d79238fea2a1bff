use Rattle.std.proofs.Common.{◌≡◌, ◌≢◌, ◌+◌, ◌<◌, ◌≤◌, ℕ, List, Bool, true, false, Option, None, length, get_or, refl, sym, ap, ◌∙◌, subst}
use Rattle.std.proofs.Common.{arith}
use Rattle.chunk_contexts.proofs.Words.{IsTrue, is_some, nat_lt, ◌==◌, ◌&&◌, Layout}
use Rattle.chunk_contexts.proofs.Laws.{cond-true, cond-false, eq-eqb, ne_eqb, lt-ltb, le-ltb, get_or_read, common_steps, nat_tests}
use Rattle.chunk_contexts.specs.Slab.{no_block, IsSlabLayout, IsEntry, IsSlab}
use Rattle.chunk_contexts.specs.declared.slab_chunks.SlabBlock.{SlabBlock}
use Rattle.chunk_contexts.proofs.SlabMoves.{slab-set, marked-there, marked-few, there-low}
use Rattle.chunk_contexts.proofs.slab_chunks.SlabChunks.take.Goals as goal

module _ (size count : ℕ) (l : Layout) (kept : List SlabBlock) (marked : List Bool) (is : IsSlab size count l kept marked) (k : ℕ)
    (spare : get_or marked k false ≡ true)
    (m : Layout) (e : SlabBlock) (layout : IsSlabLayout size m) (here : IsEntry m.contents k e) (others : (j : ℕ) → j ≢ k → (b : SlabBlock)
    → IsEntry l.contents j b → IsEntry m.contents j b) (blocks : m.blocks ≡ l.blocks) where
  there : IsTrue (is_some (get_or l.blocks k None))
  there = marked-there size count l kept marked is k spare

  low : k < length kept
  low = omega (arith, there-low size count l kept marked is k there, is.long)

  there-still : is_some (get_or m.blocks k None) ≡ true
  there-still = ap (λ (bs : List (Option ℕ)). is_some (get_or bs k None)) blocks ∙ there

  some-left : e.live < count → IsSlab size count m (Rattle.std.proofs.Common.set kept k e) marked
  some-left few =
      slab-set size count l kept marked is k m e marked layout here (omega (arith, few)) others
      (λ j ne. ap (λ (bs : List (Option ℕ)). get_or bs j None) blocks) low
      (subst (λ (bs : List (Option ℕ)). length bs ≤ length kept) (sym blocks) is.long) refl
      (subst (λ (bs : List (Option ℕ)). length bs ≤ length marked) (sym blocks) is.long_marks)
      (spare ∙ sym (ap (λ (b : Bool). b && nat_lt e.live count) there-still ∙ lt-ltb e.live count few)) (λ j ne. refl)

  none-left : count ≤ e.live → e.live ≡ (get_or kept k no_block).live + 1 → (marked' : List Bool) → length marked' ≡ length marked
      → ((j : ℕ) → get_or marked' j false ≡ Rattle.std.proofs.Common.cond (j == k) false (get_or marked j false))
      → IsSlab size count m (Rattle.std.proofs.Common.set kept k e) marked'
  none-left full more marked' long marks =
      slab-set size count l kept marked is k m e marked' layout here (omega (arith, more, marked-few size count l kept marked is k spare))
      others (λ j ne. ap (λ (bs : List (Option ℕ)). get_or bs j None) blocks) low
      (subst (λ (bs : List (Option ℕ)). length bs ≤ length kept) (sym blocks) is.long) long
      (subst (λ (bs : List (Option ℕ)). length bs ≤ length marked) (sym blocks) is.long_marks)
      (marks k ∙ cond-true (k == k) false (get_or marked k false) (eq-eqb k k refl)
      ∙ sym (ap (λ (b : Bool). b && nat_lt e.live count) there-still ∙ le-ltb e.live count full))
      (λ j ne. marks j ∙ cond-false (j == k) false (get_or marked j false) (ne_eqb j k ne))

pub index-requires : goal.index-requires
index-requires c = grind (arith, nat_tests, common_steps)

pub take_chunk-place-requires : goal.take_chunk-place-requires
take_chunk-place-requires c = grind (arith, nat_tests, common_steps)

pub index_mut-requires : goal.index_mut-requires
index_mut-requires c = grind (arith, nat_tests, common_steps)

pub unmark-requires : goal.unmark-requires
unmark-requires c = grind (arith, nat_tests, common_steps)

pub returns-clause-chunks : goal.returns-clause-chunks
returns-clause-chunks c = grind (arith, nat_tests, get_or_read, none-left)

pub returns-then-entry-self : goal.returns-then-entry-self
returns-then-entry-self c = record {
  chunks =
      let s = c.args.self.now in let t = c.take_chunk-place.ensures in
      some-left s.size s.per s.layout s.blocks.items s.spare c.requires.chunks c.args.block c.requires.spare c.take_chunk-place.new.layout
      c.take_chunk-place.new.entry t.layout t.entry t.others t.blocks c.if-entry-self.true;
  taken = λ i. record {
    size = c.args.self.now.size;
    chunks = c.take_chunk-place.ensures.taken i;
    blocks = c.take_chunk-place.ensures.blocks
        i;
  };
  fresh = c.take_chunk-place.ensures.fresh;
  block = c.take_chunk-place.ensures.block;
}

pub returns-clause-taken : goal.returns-clause-taken
returns-clause-taken c = λ i. record {
  size = c.args.self.now.size;
  chunks = c.take_chunk-place.ensures.taken i;
  blocks =
      c.take_chunk-place.ensures.blocks i;
}

pub returns-clause-fresh : goal.returns-clause-fresh
returns-clause-fresh c = c.take_chunk-place.ensures.fresh

pub returns-clause-block : goal.returns-clause-block
returns-clause-block c = c.take_chunk-place.ensures.block
