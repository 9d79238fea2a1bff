use Rattle.std.proofs.Common.{◌≡◌, ◌+◌, ◌<◌, ◌∷◌, ℕ, List, length, get_or, drop, sym, ap, ◌∙◌, arith}
use Rattle.chunk_contexts.proofs.Words.{Layout, ChunkContents, Active, rooms_down, cut_used, cut_chunk}
use Rattle.chunk_contexts.proofs.Laws.{drop_more, common_steps, nat_tests}
use Rattle.chunk_contexts.proofs.ClassLaws.{room-down, length-down}
use Rattle.chunk_contexts.proofs.free_lists.FreeLists.cut_up.Goals as goal

pub loop-index-preserved : goal.loop-index-preserved
loop-index-preserved c =
    let v = c.loop-index.invariant in
    let i = c.loop-index.index in
    let b = c.args.block in
    let one = c.cut_one.ensures in
    let rest = c.loop-index.rest in
    let ps : List ChunkContents = c.loop-index.self.layout.contents in
    let low : i < length rooms_down = omega (arith, length-down, c.loop-index-test.true) in
    let room : get_or rooms_down i 0 ≡ c.room_of-room.result = room-down i (omega (arith, c.loop-index-test.true))
    ∙ sym c.room_of-room.ensures.value in
    let next : drop i rooms_down ≡ c.room_of-room.result ∷ drop (i + 1) rooms_down = drop_more rooms_down i 0 low
    ∙ ap (λ (r : ℕ). r ∷ drop (i + 1) rooms_down) room in
    let used : c.cut_one.new.block.used ≡ cut_used c.room_of-room.result rest.used b.size = ap (λ (a : Active). a.used) one.used
    ∙ ap (cut_used c.room_of-room.result rest.used) v.size in
    let contents : c.cut_one.new.self.layout.contents ≡ cut_chunk c.room_of-room.result b.block rest.used b.size ps = ap
    (λ (l : Layout). l.contents) one.cut ∙ (λ j. cut_chunk c.room_of-room.result (v.block j) rest.used (v.size j) ps) in
    grind (arith, nat_tests, common_steps)

pub returns-clause-cut : goal.returns-clause-cut
returns-clause-cut c = grind (arith, nat_tests, common_steps, length-down)
