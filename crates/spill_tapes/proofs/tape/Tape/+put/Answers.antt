use Rattle.std.proofs.Common.{◌≡◌, ◌∙◌, ap, subst, ◌-◌, ◌++◌, ℕ, List, length, take, drop}
use Rattle.std.proofs.lemmas.List.{take-append-drop, take_rest}
use Rattle.std.proofs.lemmas.Result.{on_ok_weaker}
use Rattle.spill_tapes.specs.Tape.{TapeState}
use Rattle.spill_tapes.proofs.PageLaws.{buffered, written_parts}
use Rattle.spill_tapes.specs.Pages.{TakesPages}
use Rattle.spill_tapes.proofs.PoolLaws.{takes_twice}
use Rattle.spill_tapes.proofs.tape.Tape.+put.Goals as goal

pub returns-clause-pages : goal.returns-clause-pages
returns-clause-pages g t c =
    subst (λ (x : TapeState). TakesPages c.args.pool.now x.pages c.put.new.pool c.put.new.self.pages) c.self.view_is
    (takes_twice _ _ _ _ _ _ c.in_ok-flush.ensures.pages c.put.ensures.pages)

pub returns-clause-written : goal.returns-clause-written
returns-clause-written g t c =
    let now = c.args.self.now in let bytes = c.args.bytes.now in let n : ℕ = c.min-n.result in let view = c.self.view_is in
    let rest : List ℕ = take (length bytes - n) (drop n bytes) in
    let parts : take n bytes ++ rest ≡ bytes = ap (λ bs. take n bytes ++ bs) (take_rest bytes n) ∙ take-append-drop n bytes in
    on_ok_weaker c.put.result
    (λ f before had. written_parts (g.D.TapeDisk.last c.put.new.disk) c.put.new.self before (take n bytes) rest bytes parts
    (f (before ++ take n bytes) (c.in_ok-flush.ensures.written (before ++ take n bytes) (buffered (g.D.TapeDisk.last c.args.disk.now) now _
    (take n bytes) (ap (λ (x : TapeState). x.pages) view) (c.in_ok-extend_from_slice.ensures.items
    ∙ ap (λ (x : TapeState). x.buffer ++ take n bytes) view) before had))))
    c.put.ensures.written
