use Rattle.std.proofs.Common.{ℕ, ap, ◌∙◌, arith}
use Rattle.chunk_contexts.proofs.Words.{Layout, with_block}
use Rattle.chunk_contexts.specs.Slab.{slab_block}
use Rattle.chunk_contexts.proofs.SlabMoves.{slab-longer, slab-grown}
use Rattle.chunk_contexts.proofs.slab_chunks.SlabChunks.grow.Goals as goal

pub returns-clause-chunks : goal.returns-clause-chunks
returns-clause-chunks c =
    let s = c.args.self.now in let e = c.in_ok-make_entry.ensures in let m = c.in_ok-make_mark.ensures in let b = c.in_ok-block.ensures in
    let kept = c.make_entry.new.blocks.items in let marked = c.make_mark.new.spare in
    let is = slab-longer s.size s.per s.layout s.blocks.items s.spare c.requires.chunks kept marked e.same e.long m.same m.long in
    slab-grown s.size s.per s.layout kept marked is c.in_ok-block.block b.was_free.1 b.was_free.0 c.take_block.new.self
    (b.taken ∙ ap (λ (n : ℕ). let l : Layout = record {
      head = s.layout.head;
      blocks = with_block s.layout.blocks c.in_ok-block.block n;
      contents = s.layout.contents;
    } in l) (c.slab_block.ensures ∙ ap slab_block c.rounded.ensures.value))
    (omega (arith, e.room, c.numbers-numbers.ensures)) (omega (arith, m.room, c.numbers-numbers.ensures)) c.mark.new.self
    c.mark.ensures.long c.mark.ensures.marked
