use Rattle.std.specs.Prelude.{◌≡◌, ◌≤◌, ◌+◌, refl, if◌then◌else◌, length}
use Rattle.std.proofs.Common.{arith, ap, sym, ◌∙◌}
use Rattle.std.proofs.lemmas.List.{length-drop}
use Rattle.csv.specs.Records.{fields_of}
use Rattle.tape_disks.specs.DiskLaws.{leaves_none}
use Rattle.script_machine.proofs.Words.{owned_by, is_refusal}
use Rattle.refusals.specs.declared.error.RunError.TheVariants as stop
use Rattle.script_machine.proofs.EndLaws.{fails_passed, works_passed}
use Rattle.script_machine.proofs.RunLaws.{left_both, next_read, ran_done, ran_front, ran_more, ran_none, ran_some, ran_start}
use Rattle.script_machine.proofs.engine.answer_all.Goals as goal
use Rattle.script_machine.proofs.engine.answer_all.Goals.{then-is_refused, else-is_refused}

pub returns-in_err-next : goal.returns-in_err-next
returns-in_err-next g c =
    let disk = c.args.disk.now in
    let none = ran_none g.D.TapeDisk c.args.session.now.seed _ disk _ in
    record {
      works = works_passed g.D.TapeDisk _ c.from_residual.result stop.NoMemory c.from_residual.ensures.1 _ _ _ _ _
          (_, disk, _, 0, leaves_none g.D.TapeDisk disk, none.0, none.1);
      write_fault = fails_passed c.from_residual.result stop.NoMemory c.from_residual.ensures.1 c.args.writer.now c.args.writer.now
          (λ sound. sym sound);
      disk = (0, leaves_none g.D.TapeDisk disk);
    }

pub loop-next-init : goal.loop-next-init
loop-next-init g c =
    let next = next_read _ c.args.records.now _ c.in_ok-next.ensures.found c.in_ok-next.ensures.read in
    let same = next.0 in
    record {
      room = omega (arith, ap length same);
      next = next.1;
      ran = rw same (ran_start g.D.TapeDisk _ _ c.args.disk.now _ _ c.requires.none);
      sound = λ sound. sound;
      left = (0, leaves_none g.D.TapeDisk c.args.disk.now);
    }

pub returns-in_err-reply : goal.returns-in_err-reply
returns-in_err-reply g c =
    let inv = c.loop-next.invariant in
    let next = rw c.in-Some.is at inv.next in
    let ran = rw next at (rw c.in-Some.is at inv.ran) in
    let stopped = c.in_err-reply.ensures.stopped in
    let some = ran_some g.D.TapeDisk _ _ _ _ _ _ _ _ _ _ ran in
    record {
      works = works_passed g.D.TapeDisk _ c.from_residual-in_err-reply.result stop.NoMemory c.from_residual-in_err-reply.ensures.1 _ _ _ _ _
          (_, c.loop-next.disk, _, stopped.0, stopped.1, some.0, some.1);
      write_fault = fails_passed c.from_residual-in_err-reply.result stop.NoMemory c.from_residual-in_err-reply.ensures.1
          c.args.writer.now c.loop-next.writer (λ sound. sym (inv.sound sound));
      disk = left_both g.D.TapeDisk c.args.disk.now c.loop-next.disk c.execute.new.disk inv.left stopped;
    }

pub returns-in_err-next-2 : goal.returns-in_err-next-2
returns-in_err-next-2 g c =
    let inv = c.loop-next.invariant in
    let next = rw c.in-Some.is at inv.next in
    let ran = rw next at (rw c.in-Some.is at inv.ran) in
    let executes = c.in_ok-reply.ensures.executes in
    let some = ran_some g.D.TapeDisk _ _ _ _ _ _ _ _ _ _ ran in
    let passed = c.from_residual-in_err-next-2.ensures.1 in
    record {
      works = works_passed g.D.TapeDisk _ c.from_residual-in_err-next-2.result stop.NoMemory passed _ _ _ _ _
          (_, c.loop-next.disk, _, _, executes.disk, some.0, some.1);
      write_fault = fails_passed c.from_residual-in_err-next-2.result stop.NoMemory passed c.args.writer.now c.loop-next.writer
          (λ sound. sym (inv.sound sound));
      disk = left_both g.D.TapeDisk c.args.disk.now c.loop-next.disk c.execute.new.disk inv.left (_, executes.disk);
    }

pub returns-in_err-put_reply : goal.returns-in_err-put_reply
returns-in_err-put_reply g c =
    let inv = c.loop-next.invariant in
    let next = rw c.in-Some.is at inv.next in
    let ran = rw next at (rw c.in-Some.is at inv.ran) in
    let executes = c.in_ok-reply.ensures.executes in
    record {
      works = works_passed g.D.TapeDisk _ c.from_residual-in_err-put_reply.result stop.WriteFault c.from_residual-in_err-put_reply.ensures.1
          _ _ _ _ _ (_, ran_front ran executes _ c.in_err-put_reply.ensures.0);
      write_fault = fails_passed c.from_residual-in_err-put_reply.result stop.WriteFault c.from_residual-in_err-put_reply.ensures.1
          c.args.writer.now c.put_reply.new.writer (λ sound. c.in_err-put_reply.ensures.1 (inv.sound sound));
      disk = left_both g.D.TapeDisk c.args.disk.now c.loop-next.disk c.execute.new.disk inv.left (_, executes.disk);
    }

pub loop-next-smaller : goal.loop-next-smaller
loop-next-smaller g c =
    let read = next_read _ c.execute.new.records _ c.in_ok-next-2.ensures.found c.in_ok-next-2.ensures.read in
    let same = ap length read.0 in
    let left = ap length c.in_ok-reply.ensures.left ∙ length-drop (owned_by (fields_of c.in-Some.command.head)) c.loop-next.records in
    rw c.in-Some.is (omega (arith, same, left))

pub loop-next-preserved : goal.loop-next-preserved
loop-next-preserved g c =
    let inv = c.loop-next.invariant in
    let next = rw c.in-Some.is at inv.next in
    let ran = rw next at (rw c.in-Some.is at inv.ran) in
    let room = rw c.in-Some.is at inv.room in
    let read = next_read _ c.execute.new.records _ c.in_ok-next-2.ensures.found c.in_ok-next-2.ensures.read in
    let same = read.0 in
    let left = ap length c.in_ok-reply.ensures.left ∙ length-drop (owned_by (fields_of c.in-Some.command.head)) c.loop-next.records in
    let counts : c.if-is_refused.refused ≡ c.loop-next.refused + (if is_refusal c.in_ok-reply.reply then 1 else 0) =
    elim c.if-is_refused.branch [
      | then-is_refused w ↦ rw (w.refused-is, sym c.is_refused.ensures, w.if-is_refused.true) refl
      | else-is_refused w ↦ rw (w.refused-is, sym c.is_refused.ensures, w.if-is_refused.false) (omega arith)
    ] in
    let bounded : c.if-is_refused.refused ≤ c.loop-next.refused + 1 =
    elim c.if-is_refused.branch [ then-is_refused w ↦ omega arith | else-is_refused w ↦ omega arith ] in
    record {
      room = omega (arith, room, bounded, left, ap length same);
      next = read.1;
      ran = rw (same, c.in_ok-reply.ensures.left) (ran_more ran c.in_ok-reply.ensures.executes _ _ c.in_ok-put_reply.ensures.0 counts);
      sound = λ sound. sym (c.in_ok-put_reply.ensures.1 (inv.sound sound));
      left = left_both g.D.TapeDisk c.args.disk.now c.loop-next.disk c.execute.new.disk inv.left (
        _,
        c.in_ok-reply.ensures.executes.disk,
      );
    }

pub returns-clause-works : goal.returns-clause-works
returns-clause-works g c =
    let inv = c.loop-next.invariant in
    ran_done g.D.TapeDisk _ _ _ _ _ _ _ _ _ (rw c.in_default.is at inv.ran) (rw c.in_default.is at inv.next)
