use Rattle.std.proofs.Common.{◌≡◌, arith, ap, ◌∙◌}
use Rattle.std.proofs.lemmas.Grind.{common_steps}
use Rattle.spill_tapes.specs.Tape.{TapeState, tape_len}
use Rattle.spill_tapes.proofs.TapeLaws.{rewound_records}
use Rattle.spill_tapes.proofs.tape.Tape.rewind.Goals as goal

pub returns-clause-rewound : goal.returns-clause-rewound
returns-clause-rewound g c =
    let view = c.self-2.view_is in
    let left : c.finish.new.self.left ≡ tape_len c.args.self.now = grind (arith, common_steps) in
    rewound_records (g.D.TapeDisk.last c.args.disk.now) (g.D.TapeDisk.last c.finish.new.disk) c.args.self.now _ c.finish.new.self _
    (ap (λ (t : TapeState). t.pages) c.self.view_is) (ap (λ (t : TapeState). t.buffer) c.self.view_is) c.in_ok-finish.ensures.written
    c.in_ok-finish.ensures.empty (ap (λ (t : TapeState). t.pages) view) c.new.ensures.items
    (ap (λ (t : TapeState). t.records) view ∙ c.finish.ensures.same.records ∙ ap (λ (t : TapeState). t.records) c.self.view_is)
    (ap (λ (t : TapeState). t.left) view ∙ left)
