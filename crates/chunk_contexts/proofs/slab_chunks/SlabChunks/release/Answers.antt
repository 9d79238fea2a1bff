use Rattle.std.proofs.Common.{◌≡◌, ◌+◌, ◌-◌, ◌<◌, false, None, length, get_or, sym, ap, ◌∙◌, subst, arith}
use Rattle.chunk_contexts.proofs.Words.{◌==◌, Layout, without, put_at, Place, live, link_bytes}
use Rattle.chunk_contexts.proofs.Laws.{cond-true, cond-false, eq-eqb, ne_eqb, get_or_read}
use Rattle.chunk_contexts.specs.Generation.{in_block}
use Rattle.chunk_contexts.specs.Slab.{no_block, IsSlab}
use Rattle.chunk_contexts.specs.declared.slab_chunks.SlabBlock.{SlabBlock}
use Rattle.chunk_contexts.specs.declared.slab_chunks.SlabChunks.{SlabChunks}
use Rattle.chunk_contexts.proofs.SlabMoves.{there-low, live-there, live-room, live-block, fewer, slab-freed, chunks-freed, slab-back}
use Rattle.chunk_contexts.proofs.SlabMoves.{chunks-back}
use Rattle.chunk_contexts.proofs.slab_chunks.SlabChunks.release.Goals as goal

module _ (s : SlabChunks) (is : IsSlab s.size s.per s.layout s.blocks.items s.spare) (place : Place)
    (there : Rattle.std.specs.Prelude.IsTrue (Rattle.chunk_layout.specs.Contents.has (live s.layout.contents) place)) where
  low : place.block < length s.layout.blocks
  low = there-low s.size s.per s.layout s.blocks.items s.spare is place.block (live-block s.size s.per s.layout s.blocks.items s.spare is
      place there)

  low-kept : place.block < length s.blocks.items
  low-kept = omega (arith, low, is.long)

  low-marks : place.block < length s.spare
  low-marks = omega (arith, low, is.long_marks)

  read : (e : SlabBlock) → e ≡ get_or s.blocks.items place.block e → e ≡ get_or s.blocks.items place.block no_block
  read e is-read = get_or_read s.blocks.items place.block e low-kept is-read no_block

  left : in_block (without (live s.layout.contents) place) place.block + 1 ≡ (get_or s.blocks.items place.block no_block).live
  left = fewer s.size s.per s.layout s.blocks.items s.spare is place there

pub index-entry-requires : goal.index-entry-requires
index-entry-requires c = omega (
  arith,
  low-kept c.args.self.now c.requires.chunks c.args.place c.requires.there,
  c.args.self.now.blocks.ok.0,
)

pub give_back-requires : goal.give_back-requires
give_back-requires c = low c.args.self.now c.requires.chunks c.args.place c.requires.there

pub index_mut-requires : goal.index_mut-requires
index_mut-requires c = omega (arith, low-kept c.args.self.now c.requires.chunks c.args.place c.requires.there, c.args.self.now.blocks.ok.0)

pub unmark-requires : goal.unmark-requires
unmark-requires c = low-marks c.args.self.now c.requires.chunks c.args.place c.requires.there

pub returns-then-entry-eq1 : goal.returns-then-entry-eq1
returns-then-entry-eq1 c = record {
  chunks =
      let s = c.args.self.now in let was = read s c.requires.chunks c.args.place c.requires.there c.index-entry.result.now
      c.index-entry.ensures in
      slab-back s.size s.per s.layout s.blocks.items s.spare c.requires.chunks c.args.place c.requires.there
      (ap (λ (b : SlabBlock). b.live) (sym was) ∙ c.if-entry-eq1.true) c.give_back.new.self c.give_back.ensures c.unmark.new.self
      c.unmark.ensures.long c.unmark.ensures.marked;
  freed =
      let s = c.args.self.now in let place = c.args.place in let was = read s c.requires.chunks place c.requires.there
      c.index-entry.result.now c.index-entry.ensures in
      let last = ap (λ (b : SlabBlock). b.live) (sym was) ∙ c.if-entry-eq1.true in
      let none : in_block (without (live s.layout.contents) place) place.block
      ≡ 0 = omega (arith, left s c.requires.chunks place c.requires.there, last) in
      let blocks = cond-true (in_block (without (live s.layout.contents) place) place.block == 0)
      (Rattle.std.proofs.Common.set s.layout.blocks place.block None) s.layout.blocks
      (eq-eqb (in_block (without (live s.layout.contents) place) place.block) 0 none) in
      let chunks = ap (λ (l : Layout). live l.contents) c.give_back.ensures
      ∙ chunks-back s.size s.per s.layout s.blocks.items s.spare c.requires.chunks place c.requires.there last c.give_back.new.self
      c.give_back.ensures c.unmark.new.self c.unmark.ensures.long c.unmark.ensures.marked in
      λ i. record { size = s.size; chunks = chunks i; blocks = (ap (λ (l : Layout). l.blocks) c.give_back.ensures ∙ sym blocks) i };
}

pub put_first-requires-clause-there : goal.put_first-requires-clause-there
put_first-requires-clause-there c = let s = c.args.self.now in live-there s.size s.per s.layout s.blocks.items s.spare c.requires.chunks
    c.args.place c.requires.there

pub put_first-requires-clause-room : goal.put_first-requires-clause-room
put_first-requires-clause-room c = let s = c.args.self.now in omega (
  arith,
  live-room s.size s.per s.layout s.blocks.items s.spare
      c.requires.chunks c.args.place c.requires.there,
)

pub overflow_sub-entry : goal.overflow_sub-entry
overflow_sub-entry c =
    let s = c.args.self.now in let was = read s c.requires.chunks c.args.place c.requires.there c.index-entry.result.now
    c.index-entry.ensures in
    omega (arith, left s c.requires.chunks c.args.place c.requires.there, ap (λ (b : SlabBlock). b.live) was)

pub index_mut-requires-2 : goal.index_mut-requires-2
index_mut-requires-2 c = omega (
  arith,
  low-kept c.args.self.now c.requires.chunks c.args.place c.requires.there,
  c.args.self.now.blocks.ok.0,
)

pub mark-requires : goal.mark-requires
mark-requires c = low-marks c.args.self.now c.requires.chunks c.args.place c.requires.there

-- the block stays: what is written into it, and why
made : (c : goal.After-mark) → c.put_first.new.layout
    ≡ put_at c.args.self.now.layout c.args.place 0 (link_bytes (get_or c.args.self.now.blocks.items c.args.place.block no_block).free) false
made c =
    let s = c.args.self.now in
    c.put_first.ensures.freed ∙ ap (λ (b : SlabBlock). put_at s.layout c.args.place 0 (link_bytes b.free) false)
    (read s c.requires.chunks c.args.place c.requires.there c.index-entry.result.now c.index-entry.ensures)

some : (c : goal.After-mark) → 1 < (get_or c.args.self.now.blocks.items c.args.place.block no_block).live
some c =
    let s = c.args.self.now in
    let was = read s c.requires.chunks c.args.place c.requires.there c.index-entry.result.now c.index-entry.ensures in
    omega (arith, left s c.requires.chunks c.args.place c.requires.there, ap (λ (b : SlabBlock). b.live) was, c.if-entry-eq1.false)

pub returns-clause-chunks : goal.returns-clause-chunks
returns-clause-chunks c =
    let s = c.args.self.now in let place = c.args.place in let was = read s c.requires.chunks place c.requires.there
    c.index-entry.result.now c.index-entry.ensures in
    subst (λ (b : SlabBlock). IsSlab s.size s.per c.put_first.new.layout (Rattle.std.proofs.Common.set s.blocks.items place.block b)
    c.mark.new.self)
    (λ i. record { free = sym c.put_first.ensures.first i; cut = (sym was i).cut; live = (sym was i).live - 1 })
    (slab-freed s.size s.per s.layout s.blocks.items s.spare c.requires.chunks place c.requires.there c.put_first.new.layout (made c)
    (some c) c.mark.new.self c.mark.ensures.long c.mark.ensures.marked)

pub returns-clause-freed : goal.returns-clause-freed
returns-clause-freed c =
    let s = c.args.self.now in let place = c.args.place in
    let more : in_block (without (live s.layout.contents) place) place.block ≡ 0
    → ⊥ = λ none. omega (arith, none, left s c.requires.chunks place c.requires.there, some c) in
    let blocks = cond-false (in_block (without (live s.layout.contents) place) place.block == 0)
    (Rattle.std.proofs.Common.set s.layout.blocks place.block None) s.layout.blocks
    (ne_eqb (in_block (without (live s.layout.contents) place) place.block) 0 more) in
    let chunks = chunks-freed s.size s.per s.layout s.blocks.items s.spare c.requires.chunks place c.requires.there c.put_first.new.layout
    (made c) (some c) c.mark.new.self c.mark.ensures.long c.mark.ensures.marked in
    λ i. record { size = s.size; chunks = chunks i; blocks = (ap (λ (l : Layout). l.blocks) (made c) ∙ sym blocks) i }
