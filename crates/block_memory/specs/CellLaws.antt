-- Laws of `Holds`, `IsWritten` and `with_bytes`, for whoever keeps track of what stands in a block; nothing here is a definition.
use Rattle.std.proofs.Common.{◌≡◌, ℕ, length}
use Rattle.std.proofs.lemmas.List.{length-replicate}
use Rattle.block_memory.specs.Cells.{zeros}

pub length-zeros : (n : ℕ) → length (zeros n) ≡ n
unfolding zeros
length-zeros n = length-replicate n 0
