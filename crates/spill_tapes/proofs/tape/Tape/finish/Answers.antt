use Rattle.std.proofs.Common.{◌≡◌, ◌≤◌, ◌-◌, ◌++◌, ℕ, List, arith, ap, ◌∙◌, length, replicate, vec_len}
use Rattle.std.proofs.lemmas.List.{take_all}
use Rattle.std.proofs.lemmas.Result.{on_ok_weaker}
use Rattle.spill_tapes.specs.Tape.{TapeState}
use Rattle.spill_tapes.proofs.PageLaws.{buffered}
use Rattle.spill_tapes.proofs.tape.Tape.finish.Goals as goal

pub returns-clause-written : goal.returns-clause-written
returns-clause-written g c =
    let small : length c.self.inside.buffer.items ≤ 8192 = omega (
      arith,
      ap (λ (t : TapeState). length t.buffer) c.self.view_is,
      c.requires.small,
    ) in
    let zeros : List ℕ = replicate {A = ℕ} (8192 - vec_len c.self.inside.buffer) 0 in
    let filled : c.resize.new.self.items ≡ c.args.self.now.buffer ++ zeros = c.in_ok-resize.ensures.items
    ∙ ap (λ bs. bs ++ zeros) (take_all 8192 c.self.inside.buffer.items small ∙ ap (λ (t : TapeState). t.buffer) c.self.view_is) in
    on_ok_weaker c.flush.result
    (λ f bytes had. (
      zeros,
      f (bytes ++ zeros) (buffered (g.D.TapeDisk.last c.args.disk.now) c.args.self.now _ zeros
          (ap (λ (t : TapeState). t.pages) c.self.view_is) filled bytes had),
    ))
    c.flush.ensures.written
