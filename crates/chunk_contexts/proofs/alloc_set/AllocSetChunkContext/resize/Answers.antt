use Rattle.chunk_contexts.proofs.Laws.{common_steps, nat_tests}
use Rattle.std.proofs.Common.{◌≡◌, ◌∷◌, List, sym, ap, ◌∙◌, subst, arith}
use Rattle.chunk_contexts.proofs.Words.{ChunkContents, place_of, contents_at, without, resized, Place, ChunkName, bytes_of, chunk_of}
use Rattle.chunk_contexts.proofs.Words.{IsResized}
use Rattle.chunk_contexts.specs.Set.{SetState, set_room, set_put, set_taken, set_freed}
use Rattle.chunk_contexts.proofs.SetMoves.{resized-stays, resized-moved, taken-chunks}
use Rattle.chunk_contexts.proofs.Growth.{less-by}
use Rattle.chunk_contexts.proofs.Content.{name-there, resized-keeps}
use Rattle.chunk_contexts.proofs.alloc_set.AllocSetChunkContext.resize.Goals as goal

pub returns-then-len-room-clause-resized : goal.returns-then-len-room-clause-resized
returns-then-len-room-clause-resized c =
    let s = c.args.self.now in let name = c.args.name in let n = c.args.n in
    let same : place_of c.stay.result ≡ place_of name = ap place_of c.stay.ensures.name ∙ c.place-place.ensures in
    let state : c.stay.new.self ≡ set_put s (place_of name) (resized (bytes_of s.chunks name) n) =
    c.stay.ensures.put ∙ ap (λ (p : Place). set_put s p (resized (contents_at s.chunks p).bytes n)) c.place-place.ensures in
    subst (λ (t : SetState). IsResized s.chunks t.chunks name c.stay.result n) (sym state)
    (resized-stays s.chunks name c.stay.result n (contents_at s.chunks (place_of name)).room same
    (ap (λ (m : ChunkName). m.len) c.stay.ensures.name))

pub returns-clause-resized : goal.returns-clause-resized
returns-clause-resized c =
    let s = c.args.self.now in let name = c.args.name in let n = c.args.n in let new = c.in_ok-relocate.field-0 in
    let p : ChunkContents = chunk_of new (set_room n) (resized (bytes_of s.chunks name) n) in
    let state : c.relocate.new.self ≡ set_freed (set_taken s n p) (place_of name) =
    c.in_ok-relocate.ensures.moved
    ∙ ap (λ (q : Place). set_freed (set_taken s n (chunk_of new (set_room n) (resized (contents_at s.chunks q).bytes n))) q)
    c.place-place.ensures in
    let chunks : c.relocate.new.self.chunks ≡ without (p ∷ s.chunks) (place_of name) = ap (λ (t : SetState). t.chunks) state
    ∙ ap (λ (cs : List ChunkContents). without cs (place_of name)) (taken-chunks s n p) in
    subst (λ (cs : List ChunkContents). IsResized s.chunks cs name new n) (sym chunks)
    (resized-moved s.chunks name new n (set_room n) (name-there s.chunks name c.requires) c.in_ok-relocate.ensures.fresh
    c.in_ok-relocate.ensures.len)

pub returns-then-len-room-clause-keeps : goal.returns-then-len-room-clause-keeps
returns-then-len-room-clause-keeps c = resized-keeps c.args.self.now.chunks c.stay.new.self.chunks c.args.name c.stay.result c.args.n
    (returns-then-len-room-clause-resized c)

pub returns-clause-keeps : goal.returns-clause-keeps
returns-clause-keeps c = resized-keeps c.args.self.now.chunks c.relocate.new.self.chunks c.args.name c.in_ok-relocate.field-0 c.args.n
    (returns-clause-resized c)

pub returns-clause-grown : goal.returns-clause-grown
returns-clause-grown c _ = grind (arith, nat_tests, common_steps)

pub returns-clause-most : goal.returns-clause-most
returns-clause-most c = grind (arith, nat_tests, common_steps, less-by)
