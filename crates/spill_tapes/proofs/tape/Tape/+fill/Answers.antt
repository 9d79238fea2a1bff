use Rattle.std.proofs.Common.{◌≡◌, ◌-◌, ◌≤◌, ◌++◌, ℕ, IsTrue, refl, arith, ap, ◌∙◌, sym, subst, length, take, drop}
use Rattle.std.proofs.lemmas.Result.{on_ok_weaker}
use Rattle.spill_tapes.specs.Tape.{TapeState, HasAhead, spent}
use Rattle.spill_tapes.proofs.PageLaws.{spent_from, filled_on}
use Rattle.spill_tapes.proofs.tape.Tape.+fill.Goals as goal

pub returns-then-n-ahead-clause-filled : goal.returns-then-n-ahead-clause-filled
returns-then-n-ahead-clause-filled g t c =
    let now = c.args.self.now in let n = c.args.n in let before = c.args.bytes.now.items in let told = c.in_ok-spend.ensures in
    let fits : n ≤ length now.buffer - now.read = omega (
      arith,
      c.if-n-ahead.true,
      c.len.ensures,
      ap (λ (x : TapeState). length x.buffer)
          c.self.view_is,
      ap (λ (x : TapeState). x.read) c.self.view_is,
    ) in
    λ honest front rest len had.
    let parts : (take n (drop now.read now.buffer) ≡ front) × HasAhead (g.D.TapeDisk.last c.args.disk.now) (spent now n) rest = spent_from
    (g.D.TapeDisk.last c.args.disk.now) now (spent now n) n refl refl refl fits front rest len had in (
      told.bytes ∙ ap (λ bs. before ++ bs) parts.0,
      subst (λ (x : TapeState). HasAhead (g.D.TapeDisk.last c.args.disk.now) x rest)
          (sym told.spent) parts.1,
    )

pub returns-clause-filled : goal.returns-clause-filled
returns-clause-filled g t c =
    let now = c.args.self.now in let a : ℕ = c.len.result - c.self.inside.read in
    let fits : a ≤ length now.buffer - now.read = omega (
      arith,
      c.requires.read,
      c.len.ensures,
      ap (λ (x : TapeState). length x.buffer)
          c.self.view_is,
      ap (λ (x : TapeState). x.read) c.self.view_is,
    ) in
    on_ok_weaker c.fill.result
    (λ f honest. filled_on (g.D.TapeDisk.last c.args.disk.now) (g.D.TapeDisk.last c.load.new.disk) (g.D.TapeDisk.last c.fill.new.disk) now
    c.spend-2.new.self c.load.new.self c.fill.new.self a c.args.n c.args.bytes.now.items c.spend-2.new.bytes.items
    c.fill.new.bytes.items
    c.in_ok-spend-2.ensures.spent c.in_ok-spend-2.ensures.bytes fits (omega arith) (c.in_ok-load.ensures.loaded honest)
    (f (subst IsTrue (sym c.load.ensures.disk.honesty) honest)))
    c.fill.ensures.filled
