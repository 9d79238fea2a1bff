use Rattle.std.proofs.Common.{◌≡◌, true, false, Err, set, refl, sym, ap, ◌∙◌}
use Rattle.spill_tapes.specs.Tapes.{TapesState, IsReadRefusal, is_read, phase_of}
use Rattle.spill_tapes.specs.TapesFields.{tapes_of}
use Rattle.spill_tapes.proofs.TapesLaws.{others_kept_all, read_low, was_at, now_at, phases_moved, not_refused, refused_so}
use Rattle.spill_tapes.proofs.TapesLaws.{read_reason, reads_so, refuses_so, frees_so, phase_read}
use Rattle.spill_tapes.proofs.tapes.Tapes.next.Goals as goal

pub returns-in-Ok : goal.returns-in-Ok
returns-in-Ok g c =
    let t = tapes_of c.self.inside in let s = c.args.self.now in let tape = c.args.tape in let y = c.index_mut-slot.result.now in
    let x = c.next.new.self in let view = c.self.view_is in let before = c.args.disk.now in let after = c.next.new.disk in
    let alive : s.is_dead ≡ false = sym c.is_dead.ensures ∙ c.if-is_dead.false in
    let read : is_read s tape ≡ true = c.requires.read alive in
    let low = read_low t s tape view read in let at = c.index_mut-slot.ensures.value in
    let new : TapesState = record { is_dead = t.is_dead; tapes = set t.tapes tape.index x; pool = c.next.new.pool } in
    let was = was_at t tape y c.self.invariant low at s view in
    let now = now_at t tape y c.self.invariant low at x in
    record {
      dies = not_refused IsReadRefusal s new before after alive c.in-Ok.found (ap (λ (z : TapesState). z.is_dead) view ∙ alive);
      reads = reads_so g.D.TapeDisk tape s new before after y x was read c.next.new.bytes.items c.in-Ok.found now c.next.ensures.phase
          c.in-Ok.ensures.given;
      phases = λ id. phases_moved t tape y c.self.invariant low at x (c.next.ensures.phase ∙ sym (phase_read s tape y was read)) id.index
          ∙ ap (λ (z : TapesState). phase_of z id) view;
      others = others_kept_all _ _ t _ _ _ x view c.self.invariant c.next.ensures.disk.keeps refl;
      frees = frees_so t s new tape y x view was now c.next.ensures.pages;
      disk = c.in-Ok.ensures.disk;
    }

pub returns-in-Err : goal.returns-in-Err
returns-in-Err g c =
    let t = tapes_of c.self.inside in let s = c.args.self.now in let tape = c.args.tape in let y = c.index_mut-slot.result.now in
    let x = c.next.new.self in let view = c.self.view_is in let before = c.args.disk.now in let after = c.next.new.disk in
    let alive : s.is_dead ≡ false = sym c.is_dead.ensures ∙ c.if-is_dead.false in
    let read : is_read s tape ≡ true = c.requires.read alive in
    let low = read_low t s tape view read in let at = c.index_mut-slot.ensures.value in
    let new : TapesState = record { is_dead = true; tapes = set t.tapes tape.index x; pool = c.next.new.pool } in
    let was = was_at t tape y c.self.invariant low at s view in
    let now = now_at t tape y c.self.invariant low at x in
    record {
      dies = refused_so IsReadRefusal s new before after alive (Err c.in-Err.error) c.in-Err.error refl
          (read_reason c.in-Err.error c.in-Err.ensures.alive) refl;
      reads = refuses_so g.D.TapeDisk tape s new before after y x was read c.clear-in-Err.new.self.items c.in-Err.error
          c.clear-in-Err.ensures.items c.in-Err.ensures.undamaged;
      phases = λ id. phases_moved t tape y c.self.invariant low at x (c.next.ensures.phase ∙ sym (phase_read s tape y was read)) id.index
          ∙ ap (λ (z : TapesState). phase_of z id) view;
      others = others_kept_all _ _ t _ _ _ x view c.self.invariant c.next.ensures.disk.keeps refl;
      frees = frees_so t s new tape y x view was now c.next.ensures.pages;
      disk = c.in-Err.ensures.disk;
    }
