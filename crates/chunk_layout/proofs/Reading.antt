-- What is read of cells, after they were written.
use Rattle.std.proofs.Common.{◌≡◌, ℕ, ◌+◌, ◌≤◌, ◌⊎◌, List, [], ◌∷◌, Option, Some, map, length, take, refl, ap, ◌∙◌, arith, add-zero}
use Rattle.std.proofs.Common.{zero-add}
use Rattle.chunk_layout.proofs.Words.{unwrap_or, splice, refill, Cells, Holds, IsWritten, with_bytes, read}
use Rattle.chunk_layout.proofs.Laws.{length-take, bytes_of_written, written_of_holds, holds_kept, holds_over, length_over, nat_tests}
use Rattle.chunk_layout.proofs.Laws.{common_steps}

unmap : (xs : List ℕ) → map (λ (c : Option ℕ). unwrap_or c 0) (map Some xs) ≡ xs
unmap [] = refl
unmap (x ∷ xs) = ap (λ (t : List ℕ). x ∷ t) (unmap xs)

-- what stands is read
pub read-holds : (cells : Cells) (at n : ℕ) (bytes : List ℕ) → length bytes ≡ n → Holds cells at bytes → read cells at n ≡ bytes
read-holds cells at n bytes long h = grind (arith, nat_tests, unmap)

-- what was written stands as it is read
pub holds-read : (cells : Cells) (at n : ℕ) → IsWritten cells at n → Holds cells at (read cells at n)
holds-read cells at n w = grind (arith, nat_tests, bytes_of_written, read-holds)

pub length-read : (cells : Cells) (at n : ℕ) → IsWritten cells at n → length (read cells at n) ≡ n
length-read cells at n w = let some = bytes_of_written cells at n w in ap length (read-holds cells at n some.0 some.1 some.2) ∙ some.1

-- a write elsewhere changes nothing of it
pub read-kept : (cells : Cells) (at n i : ℕ) (new : List ℕ) → i + length new ≤ length cells → (at + n ≤ i) ⊎ (i + length new ≤ at)
    → IsWritten cells at n → read (with_bytes cells i new) at n ≡ read cells at n
read-kept cells at n i new room apart w = grind (
  arith,
  nat_tests,
  length-read cells at n w,
  read-holds (with_bytes cells i new) at n
      (read cells at n),
  holds_kept cells at (read cells at n) i new room,
  holds-read cells at n w,
)

pub written-kept_apart : (cells : Cells) (at n i : ℕ) (new : List ℕ) → i + length new ≤ length cells → (at + n ≤ i) ⊎ (i + length new ≤ at)
    → IsWritten cells at n → IsWritten (with_bytes cells i new) at n
written-kept_apart cells at n i new room apart w = grind (
  arith,
  nat_tests,
  length-read cells at n w,
  written_of_holds
      (with_bytes cells i new) at n (read cells at n),
  holds_kept cells at (read cells at n) i new room,
  holds-read cells at n w,
)

pub read-refilled : (cells : Cells) (at n : ℕ) (ws : List ℕ) → IsWritten cells at n → read (with_bytes cells at (take n ws)) at n
    ≡ refill n (read cells at n) ws
read-refilled cells at n ws w = grind (
  arith,
  nat_tests,
  common_steps,
  length-read cells at n w,
  length-take n ws,
  holds_over cells at,
  read
      cells at n,
  holds-read cells at n w,
  length_over,
  add-zero at,
  read-holds,
  with_bytes cells at (take n ws),
  splice,
  zero-add
      (length (take n ws)),
)
