use Rattle.std.proofs.Common.{[], true, refl, sym, subst, arith}
use Rattle.chunk_contexts.proofs.Words.{Layout, ChunkContents, AreLists}
use Rattle.chunk_contexts.proofs.Laws.{without-none, common_steps, nat_tests}
use Rattle.chunk_contexts.proofs.ClassLaws.{in-some}
use Rattle.chunk_contexts.proofs.ListLaws.{lists-new}
use Rattle.chunk_contexts.proofs.free_lists.FreeLists.cut.Goals as goal

pub release-requires-clause-lists : goal.release-requires-clause-lists
release-requires-clause-lists c =
    let s = c.args.self.now in let place = c.args.place in
    let p : ChunkContents = record { place = place; room = c.args.room; is_live = true; bytes = [] } in
    subst (λ (l : Layout). AreLists l s.heads) (sym c.carve.ensures) (lists-new s.layout s.heads c.requires.lists p refl c.requires.none
    c.requires.links)

pub returns-clause-cut : goal.returns-clause-cut
returns-clause-cut c = grind (arith, nat_tests, common_steps, without-none)

pub carve-requires-clause-room : goal.carve-requires-clause-room
carve-requires-clause-room c = omega (arith, in-some c.args.room c.requires.known)
