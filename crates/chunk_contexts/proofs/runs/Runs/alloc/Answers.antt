use Rattle.chunk_contexts.proofs.Laws.{common_steps, nat_tests}
use Rattle.std.proofs.Common.{[], ◌≡◌, length, sym, ap, ◌∙◌, arith}
use Rattle.chunk_contexts.proofs.Words.{Layout, ChunkName, chunk_of, rounded}
use Rattle.chunk_contexts.specs.Run.{run_of, run_taken}
use Rattle.chunk_contexts.proofs.RunMoves.{run-chunks, run-here, run-put, run-written}
use Rattle.chunk_contexts.proofs.runs.Runs.alloc.Goals as goal

pub put-requires-clause-there : goal.put-requires-clause-there
put-requires-clause-there c = grind (arith, nat_tests, common_steps)

pub put-requires-clause-room : goal.put-requires-clause-room
put-requires-clause-room c = grind (arith, nat_tests, common_steps)

pub returns-clause-run : goal.returns-clause-run
returns-clause-run c =
    let s = run_of c.args.self.now in let place = c.in_ok-place.place in let n = length c.args.bytes.now in
    run-put c.args.head c.claim.new.self c.in_ok-place.ensures.run place (run-here c.args.head s (run_of c.claim.new.self) place (rounded n)
    (c.args.bytes.now) [] c.in_ok-place.ensures.fresh c.in_ok-place.ensures.taken) 0 (c.args.bytes.now) c.put.new.self c.put.ensures

pub returns-clause-space : goal.returns-clause-space
returns-clause-space c =
    let s = run_of c.args.self.now in let place = c.in_ok-place.place in let n = length c.args.bytes.now in
    ap (λ (l : Layout). run_of (record { layout = l; active = c.claim.new.self.active })) c.put.ensures
    ∙ run-written c.args.head s (run_of c.claim.new.self) place (rounded n) (c.args.bytes.now) [] c.in_ok-place.ensures.fresh
    c.in_ok-place.ensures.taken
    ∙ ap (λ (m : ChunkName). run_taken c.args.head s (chunk_of m (rounded n) (c.args.bytes.now))) (sym c.named.ensures)

pub returns-clause-added : goal.returns-clause-added
returns-clause-added c =
    let s = run_of c.args.self.now in
    let place = c.in_ok-place.place in
    let n = length c.args.bytes.now in
    let space : run_of (record { layout = c.put.new.self; active = c.claim.new.self.active })
    ≡ run_taken c.args.head s (chunk_of c.named.result (rounded n) (c.args.bytes.now)) = ap
    (λ (l : Layout). run_of (record { layout = l; active = c.claim.new.self.active })) c.put.ensures
    ∙ run-written c.args.head s (run_of c.claim.new.self) place (rounded n) (c.args.bytes.now) [] c.in_ok-place.ensures.fresh
    c.in_ok-place.ensures.taken ∙ ap (λ (m : ChunkName). run_taken c.args.head s (chunk_of m (rounded n) (c.args.bytes.now)))
    (sym c.named.ensures) in
    grind (arith, nat_tests, common_steps, run-chunks c.args.head s (chunk_of c.named.result (rounded n) (c.args.bytes.now)))
