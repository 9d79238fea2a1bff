use Rattle.std.proofs.Common.{◌≡◌, ℕ, true, Option, Some, None, sym, ◌∙◌, arith}
use Rattle.chunk_contexts.proofs.Words.{is_some, IfSome}
use Rattle.chunk_contexts.proofs.Laws.{cond-true, common_steps, nat_tests}
use Rattle.chunk_contexts.specs.Slab.{slab_block, has_spare, slab_of}
use Rattle.chunk_contexts.proofs.SlabMoves.{spare-unmarked, spare-marked}
use Rattle.chunk_contexts.proofs.slab_chunks.SlabChunks.growth.Goals as goal

of-some : (P : ℕ → Type 0) (Q : Type 0) (o : Option ℕ) → is_some o ≡ true → IfSome o P → ((n : ℕ) → P n → Q) → Q
of-some P Q None some has then = absurd (cc)
of-some P Q (Some n) some has then = then n has

pub returns-then-is_some : goal.returns-then-is_some
returns-then-is_some c =
    let s = c.args.self.now in
    let spare : has_spare (slab_of s) ≡ true = of-some _ _ c.first.result (sym c.is_some.ensures ∙ c.if-is_some.true) c.first.ensures.some
    (λ n is. spare-marked s.size s.per s.layout s.blocks.items s.spare c.requires n is.1) in
    sym (cond-true (has_spare (slab_of s)) 0 (slab_block (Rattle.chunk_contexts.specs.Rooms.rounded s.size)) spare)

pub returns : goal.returns
returns c = grind (arith, nat_tests, common_steps, spare-unmarked)
