use Rattle.std.proofs.Common.{◌≡◌, ◌+◌, ◌-◌, ◌++◌, arith, ap, ◌∙◌, get_or}
use Rattle.spill_tapes.specs.Records.{number_at}
use Rattle.spill_tapes.specs.Tape.{TapeState, HasAhead}
use Rattle.spill_tapes.proofs.PageLaws.{same_ahead}
use Rattle.spill_tapes.proofs.HeaderLaws.{after_header}
use Rattle.spill_tapes.proofs.tape.Tape.next_header.Goals as goal

pub returns-clause-header : goal.returns-clause-header
returns-clause-header g c =
    let text : c.deref.result.now ≡ c.fill.new.bytes.items = c.deref.ensures.value in let view = c.self.view_is in
    let left : (c.self.inside.left - 9) + 9
    ≡ c.args.self.now.left = omega (arith, ap (λ (t : TapeState). t.left) view, c.fill.ensures.same.left, c.requires.left) in
    λ honest. after_header (g.D.TapeDisk.last c.args.disk.now) (g.D.TapeDisk.last c.fill.new.disk) c.args.self.now _ c.read.result
    c.fill.new.bytes.items
    (c.read.ensures.hash ∙ ap (λ bs. number_at bs 0) text)
    (c.read.ensures.tag ∙ ap (λ bs. get_or bs 4 0) text)
    (c.read.ensures.len ∙ ap (λ bs. number_at bs 5) text)
    (λ front rest len had.
    let told : (c.fill.new.bytes.items ≡ c.args.bytes.now.items ++ front) × HasAhead (g.D.TapeDisk.last c.fill.new.disk) c.fill.new.self
    rest = c.in_ok-fill.ensures.filled honest front rest len had in (
      told.0 ∙ ap (λ bs. bs ++ front) c.requires.empty,
      same_ahead (g.D.TapeDisk.last c.fill.new.disk) c.fill.new.self _ (ap (λ (t : TapeState). t.pages) view)
          (ap (λ (t : TapeState). t.buffer) view) (ap (λ (t : TapeState). t.read) view) rest told.1,
    ))
    left (ap (λ (t : TapeState). t.records) view ∙ c.fill.ensures.same.records) c.requires.some
