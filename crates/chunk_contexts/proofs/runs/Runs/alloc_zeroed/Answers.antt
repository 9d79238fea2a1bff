use Rattle.std.proofs.Common.{[], ◌≡◌, sym, ap, ◌∙◌, arith}
use Rattle.chunk_contexts.proofs.Words.{zeros, Layout, ChunkName, chunk_of, rounded}
use Rattle.chunk_contexts.proofs.Laws.{length-zeros, common_steps, nat_tests}
use Rattle.chunk_contexts.specs.Run.{run_of, run_taken}
use Rattle.chunk_contexts.proofs.RunMoves.{run-chunks, run-here, run-put, run-written}
use Rattle.chunk_contexts.proofs.runs.Runs.alloc_zeroed.Goals as goal

pub put_zeros-requires-clause-there : goal.put_zeros-requires-clause-there
put_zeros-requires-clause-there c = grind (arith, nat_tests, common_steps)

pub put_zeros-requires-clause-room : goal.put_zeros-requires-clause-room
put_zeros-requires-clause-room c = grind (arith, nat_tests, common_steps)

pub returns-clause-run : goal.returns-clause-run
returns-clause-run c =
    let s = run_of c.args.self.now in let place = c.in_ok-place.place in let n = c.args.n in
    run-put c.args.head c.claim.new.self c.in_ok-place.ensures.run place (run-here c.args.head s (run_of c.claim.new.self) place (rounded n)
    (zeros c.args.n) [] c.in_ok-place.ensures.fresh c.in_ok-place.ensures.taken) 0 (zeros c.args.n) c.put_zeros.new.self
    c.put_zeros.ensures

pub returns-clause-space : goal.returns-clause-space
returns-clause-space c =
    let s = run_of c.args.self.now in let place = c.in_ok-place.place in let n = c.args.n in
    ap (λ (l : Layout). run_of (record { layout = l; active = c.claim.new.self.active })) c.put_zeros.ensures
    ∙ run-written c.args.head s (run_of c.claim.new.self) place (rounded n) (zeros c.args.n) [] c.in_ok-place.ensures.fresh
    c.in_ok-place.ensures.taken
    ∙ ap (λ (m : ChunkName). run_taken c.args.head s (chunk_of m (rounded n) (zeros c.args.n))) (sym c.named.ensures)

pub returns-clause-added : goal.returns-clause-added
returns-clause-added c =
    let s = run_of c.args.self.now in
    let place = c.in_ok-place.place in
    let n = c.args.n in
    let space : run_of (record { layout = c.put_zeros.new.self; active = c.claim.new.self.active })
    ≡ run_taken c.args.head s (chunk_of c.named.result (rounded n) (zeros c.args.n)) = ap
    (λ (l : Layout). run_of (record { layout = l; active = c.claim.new.self.active })) c.put_zeros.ensures
    ∙ run-written c.args.head s (run_of c.claim.new.self) place (rounded n) (zeros c.args.n) [] c.in_ok-place.ensures.fresh
    c.in_ok-place.ensures.taken ∙ ap (λ (m : ChunkName). run_taken c.args.head s (chunk_of m (rounded n) (zeros c.args.n)))
    (sym c.named.ensures) in
    grind (
      arith,
      nat_tests,
      common_steps,
      length-zeros c.args.n,
      run-chunks c.args.head s
          (chunk_of c.named.result (rounded n) (zeros c.args.n)),
    )
