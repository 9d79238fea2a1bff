use Rattle.std.proofs.Common.{◌≡◌, true, false, set, refl, sym, ap, subst, ◌∙◌}
use Rattle.std.specs.Prelude.{not}
use Rattle.spill_tapes.specs.Pages.{UsesAgain}
use Rattle.spill_tapes.specs.Tape.{TapeState, is_in}
use Rattle.spill_tapes.specs.Tapes.{TapesState, IsRefusal, is_written}
use Rattle.spill_tapes.specs.TapesFields.{tapes_of}
use Rattle.spill_tapes.specs.declared.tape.Phase.{Phase}
use Rattle.spill_tapes.specs.declared.tape.Phase.TheVariants.{Closed}
use Rattle.spill_tapes.proofs.TapesLaws.{others_kept, written_low, was_at, now_at, not_refused, rewinds_so, phase_written}
use Rattle.spill_tapes.proofs.tapes.Tapes.rewind.Goals as goal

pub returns-in_err-rewind-clause-others : goal.returns-in_err-rewind-clause-others
returns-in_err-rewind-clause-others g c = others_kept _ _ (tapes_of c.self.inside) _ _ _ c.rewind.new.self c.self.view_is c.self.invariant
    c.rewind.ensures.keeps refl

pub returns : goal.returns
returns g c =
    let t = tapes_of c.self.inside in let s = c.args.self.now in let tape = c.args.tape in let y = c.index_mut.result.now in
    let x = c.rewind.new.self in let view = c.self.view_is in let before = c.args.disk.now in let after = c.rewind.new.disk in
    let told = c.in_ok-rewind.ensures in
    let alive : s.is_dead ≡ false = sym c.is_dead.ensures ∙ c.if-is_dead.false in
    let written : is_written s tape ≡ true = c.requires.written alive in
    let low = written_low t s tape view written in let at = c.index_mut.ensures.value in
    let new : TapesState = record { is_dead = false; tapes = set t.tapes tape.index x; pool = c.rewind.new.pool } in
    let was = was_at t tape y c.self.invariant low at s view in
    let now = now_at t tape y c.self.invariant low at x in
    record {
      dies = not_refused IsRefusal s new before after alive tt refl;
      rewound = rewinds_so g.D.TapeDisk tape s new before after y x was now written told.phase told.rewound told.counted told.room;
      «open» =
          ap (λ (z : TapeState). not (is_in Closed z.phase)) now ∙ ap (λ (ph : Phase). not (is_in Closed ph)) told.phase
          ∙ sym (ap (λ (ph : Phase). not (is_in Closed ph)) (sym (ap (λ (z : TapeState). z.phase) was)
          ∙ phase_written s tape y was written));
      others = others_kept _ _ t _ _ _ x view c.self.invariant told.keeps refl;
      again = subst (λ (z : TapesState). UsesAgain z.pool c.rewind.new.pool) view told.pages.again;
      disk = told.disk;
    }
