use Rattle.std.proofs.Common.{add_assoc, ◌≡◌, ◌+◌, ◌∷◌, ℕ, [], true, refl, sym, ◌∙◌, subst, arith}
use Rattle.chunk_contexts.proofs.Words.{Layout, ChunkContents, Place, IsRest}
use Rattle.chunk_contexts.proofs.Laws.{without-none, common_steps, nat_tests}
use Rattle.chunk_contexts.proofs.CutLaws.{rest-none, rest-more}
use Rattle.chunk_contexts.proofs.active.Active.carve.Goals as goal

pub returns-clause-fresh : goal.returns-clause-fresh
returns-clause-fresh c = let r = c.requires in rest-none c.args.layout.now c.args.self.now r.rest c.args.head c.args.room r.room r.fits

pub returns-clause-carved : goal.returns-clause-carved
returns-clause-carved c = grind (arith, nat_tests, common_steps, without-none, rest-none)

pub returns-clause-rest : goal.returns-clause-rest
returns-clause-rest c =
    let r = c.requires in let l = c.args.layout.now in let a = c.args.self.now in
    let place : Place = record { block = a.block; offset = a.used + c.args.head } in
    let p : ChunkContents = record { place = place; room = c.args.room; is_live = true; bytes = [] } in
    let none = without-none l.contents place (rest-none l a r.rest c.args.head c.args.room r.room r.fits) in
    let same : c.carve.new.self ≡ record { head = l.head; blocks = l.blocks; contents = p ∷ l.contents } = c.carve.ensures
    ∙ (λ i. record { head = l.head; blocks = l.blocks; contents = p ∷ none i }) in
    subst (λ (z : Layout). IsRest z (record { block = a.block; used = a.used + (c.args.head + c.args.room); size = a.size })) (sym same)
    (subst (λ (n : ℕ). IsRest (record { head = l.head; blocks = l.blocks; contents = p ∷ l.contents })
    (record { block = a.block; used = n; size = a.size })) (add_assoc a.used c.args.head c.args.room)
    (rest-more l a r.rest c.args.head c.args.room r.room r.fits p refl refl))
