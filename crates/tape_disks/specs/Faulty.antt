-- Disks of which something is wrong. All of this is our own.
use Rattle.std.specs.Prelude.{◌≡◌, ℕ, ◌+◌, ◌-◌, ◌%◌, ◌<◌, ◌==◌, ◌&&◌, ◌||◌, if◌then◌else◌, Bool, not, true, false, bit_xor}
use Rattle.std.specs.Prelude.{List, length, get_or, Result, Err, OnOk}
use Rattle.tape_disks.specs.Disk.{IsReadOf}
use Rattle.tape_disks.specs.declared.disk.DiskError.{DiskError}
use Rattle.tape_disks.specs.declared.disk.DiskError.TheVariants.{TapeFault}
use Rattle.tape_disks.specs.declared.disk.TapeDisk.{Ghosts}
use Rattle.tape_disks.specs.declared.limits.TheConstants.{PAGE}

-- a disk that fails once: how many calls come before the one that fails, and whether that was made
pub record FailState (D : Type 0) : Type 0 where
  pub inner : D
  pub before : ℕ
  pub failed : Bool

-- whether the next call is the one that fails
abbrev pub is_due : {D : Type 0} → FailState D → Bool
is_due d = not d.failed && (d.before == 0)

-- a call of it: the one that fails answers TapeFault and leaves the inner disk as it is; any other does what the inner disk's does
pub record FailsOnce {D T : Type 0} (Does : D → Result T DiskError → D → Type 0) (old : FailState D) (result : Result T DiskError)
    (new : FailState D) : Type 0 where
  pub fails : is_due old ≡ true → (result ≡ Err TapeFault) × (new.inner ≡ old.inner)
  pub does : is_due old ≡ false → Does old.inner result new.inner
  pub failed : new.failed ≡ (old.failed || is_due old)
  pub counted : new.before ≡ old.before - 1

-- one that flips bits: which byte of each page of 8,192, and which bits
pub record FlipState (D : Type 0) : Type 0 where
  pub inner : D
  pub at : ℕ
  pub mask : ℕ

-- the byte that is read at a place where this one lies
abbrev pub flipped : (at mask place byte : ℕ) → ℕ
flipped at mask place byte = if place % PAGE == at then bit_xor byte mask else byte

-- these bytes are others with one byte of each page flipped, from a place on
abbrev pub AreFlipped : (at mask from : ℕ) → List ℕ → List ℕ → Type 0
AreFlipped at mask from given bytes = (k : ℕ) → k < length given → get_or bytes k 0 ≡ flipped at mask (from + k) (get_or given k 0)

-- a read of it: the inner disk gave bytes, and what was read is these, flipped
pub record ReadsFlipped {D T : Type 0} (g : Ghosts D) (from : ℕ) (room bytes : List ℕ) (old : FlipState D) (result : Result T DiskError)
    (new : FlipState D) : Type 0 where
  pub given : List ℕ
  pub read : IsReadOf g from room given old.inner result new.inner
  pub len : length bytes ≡ length given
  pub flips : OnOk result (AreFlipped old.at old.mask from given bytes)
  pub at : new.at ≡ old.at
  pub mask : new.mask ≡ old.mask
