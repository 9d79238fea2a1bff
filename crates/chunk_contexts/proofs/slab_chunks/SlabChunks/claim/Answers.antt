use Rattle.std.proofs.Common.{◌≡◌, ◌<◌, false, arith}
use Rattle.chunk_contexts.proofs.Laws.{always_err, common_steps, nat_tests}
use Rattle.chunk_contexts.specs.Slab.{slab_of, slab_grows, has_spare}
use Rattle.chunk_contexts.proofs.SlabMoves.{spare-unmarked, spare-marked}
use Rattle.chunk_contexts.proofs.SlabStates.{taken-spare, grows-none, grows-block, taken-new, grown-total}
use Rattle.chunk_contexts.proofs.slab_chunks.SlabChunks.claim.Goals as goal

pub returns-in-Some-clause-taken : goal.returns-in-Some-clause-taken
returns-in-Some-clause-taken c = grind (arith, nat_tests, taken-spare, spare-marked)

pub returns-in-Some-clause-grown : goal.returns-in-Some-clause-grown
returns-in-Some-clause-grown c = grind (arith, nat_tests, grows-none, spare-marked)

pub returns-in_err-block-clause-refused : goal.returns-in_err-block-clause-refused
returns-in_err-block-clause-refused c =
    let s = c.args.self.now in
    let spare : has_spare (slab_of s) ≡ false = spare-unmarked s.size s.per s.layout s.blocks.items s.spare c.requires.chunks
    c.in_default.ensures.none in
    let grows : 0 < slab_grows (slab_of s) = omega (arith, grows-block (slab_of s) spare) in
    always_err c.from_residual.result (c.in_err-block.ensures.refused, grows)

pub returns-clause-taken : goal.returns-clause-taken
returns-clause-taken c = grind (arith, nat_tests, spare-unmarked, taken-new)

pub returns-clause-grown : goal.returns-clause-grown
returns-clause-grown c =
    let s = c.args.self.now in
    let spare : has_spare (slab_of s) ≡ false = spare-unmarked s.size s.per s.layout s.blocks.items s.spare c.requires.chunks
    c.in_default.ensures.none in
    grown-total (slab_of s) spare (slab_of c.grow.new.self) (slab_of c.take-2.new.self) c.in_ok-block.block c.in_ok-block.ensures.grown
    c.take-2.result c.take-2.ensures.block c.take-2.ensures.taken c.in_ok-block.ensures.vacant

pub returns-in-Some-clause-lies : goal.returns-in-Some-clause-lies
returns-in-Some-clause-lies c = grind (arith, nat_tests, grows-none, spare-marked)

pub returns-clause-lies : goal.returns-clause-lies
returns-clause-lies c _ = grind (arith, nat_tests, common_steps)
