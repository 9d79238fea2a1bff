use Rattle.chunk_contexts.proofs.Laws.{common_steps, nat_tests}
use Rattle.std.proofs.Common.{add_assoc, ◌+◌, ◌∷◌, ◌≤◌, ℕ, false, refl, sym, subst, arith}
use Rattle.chunk_contexts.proofs.Words.{Layout, ChunkContents, by_room, first_free, IsRest, link_bytes}
use Rattle.chunk_contexts.proofs.ClassLaws.{in-some}
use Rattle.chunk_contexts.proofs.CutLaws.{rest-clear, rest-none, rest-more}
use Rattle.chunk_contexts.proofs.free_lists.FreeLists.cut_one.Goals as goal

pub cut-requires-clause-none : goal.cut-requires-clause-none
cut-requires-clause-none c = grind (
  arith,
  nat_tests,
  common_steps,
  in-some c.args.room c.requires.known,
  rest-none c.args.self.now.layout
      c.args.block.now c.requires.rest 8 c.args.room,
)

pub cut-requires-clause-clear : goal.cut-requires-clause-clear
cut-requires-clause-clear c = grind (
  arith,
  nat_tests,
  common_steps,
  in-some c.args.room c.requires.known,
  rest-clear c.args.self.now.layout
      c.args.block.now c.requires.rest 8 c.args.room,
)

pub cut-requires-clause-inside : goal.cut-requires-clause-inside
cut-requires-clause-inside c = grind (arith, nat_tests, common_steps)

pub returns-clause-rest : goal.returns-clause-rest
returns-clause-rest c =
    let s = c.args.self.now in let b = c.args.block.now in let room = c.args.room in
    let some : 1 ≤ c.args.room = omega (arith, in-some c.args.room c.requires.known) in
    let p : ChunkContents = record {
      place = record { block = b.block; offset = b.used + 8 };
      room = room;
      is_live = false;
      bytes =
          link_bytes (first_free by_room room s.layout.contents);
    } in
    let more = rest-more s.layout b c.requires.rest 8 room some (omega (arith, c.if-room-left.false, c.left.ensures)) p refl refl in
    subst (λ (l : Layout). IsRest l (record { block = b.block; used = b.used + (8 + room); size = b.size })) (sym c.cut.ensures.cut)
    (subst (λ (n : ℕ). IsRest (record { head = 8; blocks = s.layout.blocks; contents = p ∷ s.layout.contents })
    (record { block = b.block; used = n; size = b.size })) (add_assoc b.used 8 room)
    (record { size = more.size; used = more.used; bound = more.bound; block = more.block; clear = more.clear; rooms = more.rooms }))
