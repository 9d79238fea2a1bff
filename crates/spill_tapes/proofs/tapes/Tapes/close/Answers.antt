use Rattle.std.proofs.Common.{◌≡◌, set, refl, ap, ◌∙◌}
use Rattle.std.specs.Prelude.{not}
use Rattle.spill_tapes.specs.Tape.{TapeState, no_tape, is_in}
use Rattle.spill_tapes.specs.Tapes.{TapesState, tape_at}
use Rattle.spill_tapes.specs.TapesFields.{tapes_of}
use Rattle.spill_tapes.specs.declared.tape.Phase.TheVariants.{Closed}
use Rattle.spill_tapes.proofs.TapesLaws.{others_kept_all, open_low, was_at, now_at, frees_so}
use Rattle.spill_tapes.proofs.tapes.Tapes.close.Goals as goal

pub returns : goal.returns
returns g c =
    let t = tapes_of c.self.inside in let s = c.args.self.now in let tape = c.args.tape in let y = c.index_mut.result.now in
    let x = c.close.new.self in let view = c.self.view_is in
    let low = open_low t s tape view c.requires.«open» in let at = c.index_mut.ensures.value in
    let new : TapesState = record { is_dead = t.is_dead; tapes = set t.tapes tape.index x; pool = c.close.new.pool } in
    let was = was_at t tape y c.self.invariant low at s view in
    let now : tape_at new tape ≡ no_tape = now_at t tape y c.self.invariant low at x ∙ c.close.ensures.closed in
    record {
      alive = ap (λ (z : TapesState). z.is_dead) view;
      closed = ap (λ (z : TapeState). not (is_in Closed z.phase)) now;
      frees = frees_so t s new tape y no_tape view was now c.close.ensures.pages;
      none = ap (λ (z : TapeState). z.pages) now;
      room = ap (λ (z : TapeState). z.room) now;
      others = others_kept_all _ _ t _ _ _ x view c.self.invariant (λ _ _ had. had) refl;
    }
