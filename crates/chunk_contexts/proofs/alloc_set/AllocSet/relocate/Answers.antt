use Rattle.chunk_contexts.proofs.Laws.{common_steps, nat_tests}
use Rattle.std.proofs.Common.{length, ap, ◌∙◌, arith}
use Rattle.chunk_contexts.proofs.Words.{ChunkContents, has, place_of, ChunkName}
use Rattle.chunk_contexts.specs.Set.{set_room}
use Rattle.chunk_contexts.proofs.SetMoves.{made-apart, made-from, made-source, made-there, made-contents, filled-is, filled-from}
use Rattle.chunk_contexts.proofs.alloc_set.AllocSet.relocate.Goals as goal

pub fill-requires-clause-apart : goal.fill-requires-clause-apart
fill-requires-clause-apart c = made-apart c.args.self.now c.claim.new.self c.claim.new.self c.args.n c.in_ok-place.place c.args.from
    (set_room c.args.n) c.requires.there c.in_ok-place.ensures.fresh c.in_ok-place.ensures.taken

pub fill-requires-clause-from : goal.fill-requires-clause-from
fill-requires-clause-from c = made-from c.args.self.now c.claim.new.self c.claim.new.self c.args.n c.in_ok-place.place c.args.from
    (set_room c.args.n) c.requires.there c.in_ok-place.ensures.fresh c.in_ok-place.ensures.taken

pub fill-requires-clause-to : goal.fill-requires-clause-to
fill-requires-clause-to c = made-there c.args.self.now c.claim.new.self c.claim.new.self c.args.n c.in_ok-place.place c.args.from
    (set_room c.args.n) c.requires.there c.in_ok-place.ensures.fresh c.in_ok-place.ensures.taken

pub fill-requires-clause-len : goal.fill-requires-clause-len
fill-requires-clause-len c = ap (λ (p : ChunkContents). length p.bytes) (made-source c.args.self.now c.claim.new.self c.claim.new.self
    c.args.n c.in_ok-place.place c.args.from (set_room c.args.n) c.requires.there c.in_ok-place.ensures.fresh c.in_ok-place.ensures.taken)
    ∙ c.requires.len

pub fill-requires-clause-room : goal.fill-requires-clause-room
fill-requires-clause-room c = omega (
  arith,
  c.in_ok-place.ensures.room,
  ap (λ (p : ChunkContents). p.room)
      (made-contents c.args.self.now c.claim.new.self c.claim.new.self c.args.n c.in_ok-place.place c.args.from (set_room c.args.n)
      c.requires.there c.in_ok-place.ensures.fresh c.in_ok-place.ensures.taken),
)

pub returns-clause-moved : goal.returns-clause-moved
returns-clause-moved c = grind (
  arith,
  nat_tests,
  filled-is c.args.self.now c.claim.new.self c.fill.new.self c.args.n c.in_ok-place.place
      c.args.from (set_room c.args.n) c.requires.there c.in_ok-place.ensures.fresh c.in_ok-place.ensures.taken c.args.n c.fill.ensures,
)

pub returns-clause-fresh : goal.returns-clause-fresh
returns-clause-fresh c = ap (λ (m : ChunkName). has c.args.self.now.chunks (place_of m)) c.named.ensures ∙ c.in_ok-place.ensures.fresh

pub returns-clause-lies : goal.returns-clause-lies
returns-clause-lies c = grind (arith, nat_tests, common_steps)

pub returns-clause-held : goal.returns-clause-held
returns-clause-held c = grind (arith, nat_tests, common_steps)

pub release-requires : goal.release-requires
release-requires c = filled-from c.args.self.now c.claim.new.self c.fill.new.self c.args.n c.in_ok-place.place c.args.from
    (set_room c.args.n) c.requires.there c.in_ok-place.ensures.fresh c.in_ok-place.ensures.taken c.args.n c.fill.ensures
