use Rattle.std.specs.Prelude.{◌≡◌, ◌≤◌, ◌+◌, ◌-◌, IsTrue, length}
use Rattle.tape_disks.specs.Calls.{Keeps}
use Rattle.tape_disks.specs.Files.{FirstAreReadAt}
use Rattle.tape_disks.proofs.file_disk.read_from.Given as goal

abbrev pub invariant-loop-done : goal.invariant-loop-done
invariant-loop-done g l = record {
  within : l.done ≤ length l.bytes;
  len : length l.bytes ≡ length l.initial.bytes;
  stands : g.F.SeekableFile.stands l.file (l.at + l.done);
  read : IsTrue (g.F.SeekableFile.honest l.fn.file) → FirstAreReadAt (g.F.SeekableFile.last l.fn.file) l.at l.done l.bytes;
  keeps : Keeps (g.F.SeekableFile.last l.fn.file) (g.F.SeekableFile.last l.file);
  failures : g.F.SeekableFile.failures l.file ≡ g.F.SeekableFile.failures l.fn.file;
  honesty : g.F.SeekableFile.honest l.file ≡ g.F.SeekableFile.honest l.fn.file;
}

abbrev pub decreases-loop-done : goal.decreases-loop-done
decreases-loop-done g l = length l.bytes - l.done
