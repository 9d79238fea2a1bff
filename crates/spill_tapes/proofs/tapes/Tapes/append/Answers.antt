use Rattle.std.proofs.Common.{◌≡◌, true, false, set, refl, sym, ap, subst, ◌∙◌}
use Rattle.spill_tapes.specs.Pages.{UsesAgain}
use Rattle.spill_tapes.specs.Tapes.{TapesState, IsRefusal, is_written, phase_of}
use Rattle.spill_tapes.specs.TapesFields.{tapes_of}
use Rattle.spill_tapes.proofs.TapesLaws.{others_kept, written_low, was_at, now_at, phases_moved, not_refused, appends_so}
use Rattle.spill_tapes.proofs.TapesLaws.{phase_written}
use Rattle.spill_tapes.proofs.tapes.Tapes.append.Goals as goal

pub returns-in_err-append-clause-others : goal.returns-in_err-append-clause-others
returns-in_err-append-clause-others g c = others_kept _ _ (tapes_of c.self.inside) _ _ _ c.append.new.self c.self.view_is c.self.invariant
    c.append.ensures.keeps refl

pub returns : goal.returns
returns g c =
    let t = tapes_of c.self.inside in let s = c.args.self.now in let tape = c.args.tape in let y = c.index_mut.result.now in
    let x = c.append.new.self in let view = c.self.view_is in let before = c.args.disk.now in let after = c.append.new.disk in
    let told = c.in_ok-append.ensures in
    let alive : s.is_dead ≡ false = sym c.is_dead.ensures ∙ c.if-is_dead.false in
    let written : is_written s tape ≡ true = c.requires.written alive in
    let low = written_low t s tape view written in let at = c.index_mut.ensures.value in
    let new : TapesState = record { is_dead = false; tapes = set t.tapes tape.index x; pool = c.append.new.pool } in
    let was = was_at t tape y c.self.invariant low at s view in
    let now = now_at t tape y c.self.invariant low at x in
    record {
      dies = not_refused IsRefusal s new before after alive tt refl;
      appended = appends_so g.D.TapeDisk tape s new before after y x was now written _ told.phase told.appended told.longer told.counted;
      phases = λ id. phases_moved t tape y c.self.invariant low at x (told.phase ∙ sym (phase_written s tape y was written)) id.index
          ∙ ap (λ (z : TapesState). phase_of z id) view;
      others = others_kept _ _ t _ _ _ x view c.self.invariant told.keeps refl;
      again = subst (λ (z : TapesState). UsesAgain z.pool c.append.new.pool) view told.pages.again;
      disk = told.disk;
    }
