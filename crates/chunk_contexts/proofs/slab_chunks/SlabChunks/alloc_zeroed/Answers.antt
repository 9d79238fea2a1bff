use Rattle.std.proofs.Common.{ℕ, true, sym, ap, ◌∙◌, arith, rules}
use Rattle.chunk_contexts.proofs.Words.{zeros, put_at, ChunkName}
use Rattle.chunk_contexts.proofs.Laws.{length-zeros}
use Rattle.chunk_contexts.specs.Slab.{slab_of}
use Rattle.chunk_contexts.proofs.SlabStates.{made-there, made-size, made-room, written}
use Rattle.chunk_contexts.proofs.slab_chunks.SlabChunks.alloc_zeroed.Goals as goal

pub put_zeros-requires-clause-there : goal.put_zeros-requires-clause-there
put_zeros-requires-clause-there c = let e = c.in_ok-place.ensures in made-there (slab_of c.args.self.now) c.claim.new.self e.chunks
    c.in_ok-place.place e.fresh e.taken

pub put_zeros-requires-clause-room : goal.put_zeros-requires-clause-room
put_zeros-requires-clause-room c = let e = c.in_ok-place.ensures in omega (
  arith,
  made-room (slab_of c.args.self.now) c.claim.new.self
      e.chunks c.in_ok-place.place e.fresh e.taken,
  made-size (slab_of c.args.self.now) c.claim.new.self e.chunks c.in_ok-place.place e.fresh
      e.taken,
)

pub returns : goal.returns
returns c =
    let e = c.in_ok-place.ensures in let s = slab_of c.args.self.now in let t = c.claim.new.self in let place = c.in_ok-place.place in
    let size = made-size s t e.chunks place e.fresh e.taken in
    let named = ap (λ (n : ℕ). let name : ChunkName = record { block = place.block; offset = place.offset; len = n } in name) (size
    ∙ sym (length-zeros s.size)) in
    let w = written s t e.chunks place e.fresh e.taken (zeros s.size) c.put_zeros.new.self (c.put_zeros.ensures
    ∙ ap (λ (n : ℕ). put_at t.layout place 0 (zeros n) true) size) c.named.result (c.named.ensures ∙ named) in
    search (rules, w.chunks, w.added, w.taken)
