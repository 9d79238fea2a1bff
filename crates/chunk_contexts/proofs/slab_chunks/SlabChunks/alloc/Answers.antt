use Rattle.std.proofs.Common.{arith, rules}
use Rattle.chunk_contexts.specs.Slab.{slab_of}
use Rattle.chunk_contexts.proofs.SlabStates.{made-there, made-size, made-room, written}
use Rattle.chunk_contexts.proofs.slab_chunks.SlabChunks.alloc.Goals as goal

pub put-requires-clause-there : goal.put-requires-clause-there
put-requires-clause-there c = let e = c.in_ok-place.ensures in made-there (slab_of c.args.self.now) c.claim.new.self e.chunks
    c.in_ok-place.place e.fresh e.taken

pub put-requires-clause-room : goal.put-requires-clause-room
put-requires-clause-room c = let e = c.in_ok-place.ensures in omega (
  arith,
  made-room (slab_of c.args.self.now) c.claim.new.self e.chunks
      c.in_ok-place.place e.fresh e.taken,
  made-size (slab_of c.args.self.now) c.claim.new.self e.chunks c.in_ok-place.place e.fresh e.taken,
)

pub returns : goal.returns
returns c =
    let e = c.in_ok-place.ensures in
    let w = written (slab_of c.args.self.now) c.claim.new.self e.chunks c.in_ok-place.place e.fresh e.taken c.args.bytes.now c.put.new.self
    c.put.ensures c.named.result c.named.ensures in
    search (rules, w.chunks, w.added, w.taken)
