use Rattle.std.proofs.Common.{◌≡◌, ℕ, ◌+◌, ◌≤◌, false, length}
use Rattle.script_machine.proofs.Words.{DiskFrame, commands_of}
use Rattle.script_io.specs.Fused.{has_failed, written}
use Rattle.script_machine.proofs.RunLaws.{IsNext, RunSoFar, unexecuted}
use Rattle.script_machine.proofs.engine.answer_all.Given as goal

abbrev pub invariant-loop-next : goal.invariant-loop-next
invariant-loop-next g l =
    record {
      room : l.refused + length (unexecuted l.next l.records) ≤ length l.fn.records;
      next : IsNext l.next l.records;
      ran : RunSoFar g.D.TapeDisk l.fn.session.seed (commands_of l.fn.records) (commands_of (unexecuted l.next l.records)) l.fn.disk l.disk
          l.session l.refused (written g.W.Write.contents l.fn.writer) (written g.W.Write.contents l.writer);
      sound : has_failed l.fn.writer ≡ false → has_failed l.writer ≡ false;
      left : (faults : ℕ) × DiskFrame g.D.TapeDisk faults l.fn.disk l.disk;
    }

abbrev pub decreases-loop-next : goal.decreases-loop-next
decreases-loop-next g l = length (unexecuted l.next l.records)
