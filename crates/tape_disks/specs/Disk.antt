-- What calls leave of a disk. All of this is our own.
use Rattle.std.specs.Prelude.{◌≡◌, ℕ, ◌+◌, ◌≤◌, IsTrue, List, length, Result, OnOk, OnErr}
use Rattle.tape_disks.specs.Calls.{AreLast, AreReadAt, Keeps, KeepsBeside, failed}
use Rattle.tape_disks.specs.Errors.{disk_faults}
use Rattle.tape_disks.specs.declared.disk.DiskError.{DiskError}
use Rattle.tape_disks.specs.declared.disk.TapeDisk.{Ghosts}

-- what a call leaves of a disk that failed `faults` times in it: the disk is as honest as before, counts that many failures more, and no
-- fewer writes
pub record DiskFrame {D : Type 0} (g : Ghosts D) (faults : ℕ) (old new : D) : Type 0 where
  pub honesty : g.honest new ≡ g.honest old
  pub failures : g.failures new ≡ g.failures old + faults
  pub writes : g.writes old ≤ g.writes new

-- what a call leaves that only reads: nothing was written, and each place has the byte last written there
pub record OnlyReads {D : Type 0} (g : Ghosts D) (faults : ℕ) (old new : D) : Type 0 where
  pub honesty : g.honest new ≡ g.honest old
  pub failures : g.failures new ≡ g.failures old + faults
  pub writes : g.writes new ≡ g.writes old
  pub keeps : Keeps (g.last old) (g.last new)

-- the result of `read_at`, as `TapeDisk` states it: these bytes were read, in the place of as many
pub record IsReadOf {D T : Type 0} (g : Ghosts D) (at : ℕ) (room bytes : List ℕ) (old : D) (result : Result T DiskError) (new : D) :
    Type 0 where
  pub len : length bytes ≡ length room
  pub read : OnOk result (IsTrue (g.honest old) → AreReadAt (g.last old) at bytes)
  pub leaves : OnlyReads g (failed disk_faults result) old new

-- and `write_at` of these bytes
pub record IsWriteOf {D T : Type 0} (g : Ghosts D) (at : ℕ) (bytes : List ℕ) (old : D) (result : Result T DiskError) (new : D) :
    Type 0 where
  pub written : OnOk result (AreLast (g.last new) at bytes)
  pub keeps : KeepsBeside (g.last old) (g.last new) at (length bytes)
  pub counted : OnOk result (g.writes new ≡ g.writes old + 1)
  pub uncounted : OnErr result (g.writes new ≡ g.writes old)
  pub failures : g.failures new ≡ g.failures old + failed disk_faults result
  pub honesty : g.honest new ≡ g.honest old
