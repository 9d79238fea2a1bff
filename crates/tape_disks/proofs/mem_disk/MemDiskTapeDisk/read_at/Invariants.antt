use Rattle.std.proofs.Common.{◌≡◌, ◌+◌, ◌-◌, ◌<◌, ◌≤◌, ℕ, length, get_or}
use Rattle.tape_disks.specs.Memory.{byte_at}
use Rattle.tape_disks.proofs.mem_disk.MemDiskTapeDisk.read_at.Given as goal

abbrev pub invariant-loop-done : goal.invariant-loop-done
invariant-loop-done l = record {
  within : l.done ≤ length l.bytes;
  read : (k : ℕ) → k < l.done → byte_at l.self (l.at + k)
      ≡ get_or l.bytes k 0;
}

abbrev pub decreases-loop-done : goal.decreases-loop-done
decreases-loop-done l = length l.initial.bytes - l.done
