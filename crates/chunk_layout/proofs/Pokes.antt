-- What a write to a block changes.
use Rattle.std.proofs.Common.{◌≡◌, ◌≢◌, ℕ, ◌+◌, ◌<◌, ◌≤◌, ◌⊎◌, List, Option, Some, None, length, get_or, arith}
use Rattle.chunk_layout.proofs.Words.{IsTrue, is_some, option_map, Cells, with_bytes, Blocks, cells_of, block_at, poke, contents_of}
use Rattle.chunk_layout.proofs.Words.{sizes_of}
use Rattle.chunk_layout.proofs.Words.{Stands, ChunkHeader}
use Rattle.chunk_layout.proofs.Laws.{false≢true, get_or-set_same, set-get_or, map-set, length-with_bytes, holds_kept, length-word_bytes}
use Rattle.chunk_layout.proofs.Laws.{nat_tests, common_steps}
use Rattle.chunk_layout.proofs.Reading.{read-kept, written-kept_apart}

-- a block that is there has a number below the count
pub some-within : (bs : Blocks) (b : ℕ) → IsTrue (is_some (get_or bs b None)) → b < length bs
some-within bs b some = grind (arith, nat_tests, common_steps)

module _ (bs : Blocks) (b at : ℕ) (bytes : List ℕ) (some : IsTrue (is_some (get_or bs b None))) where
  abbrev after : Blocks
  after = poke bs b at bytes

  pub poke-here : block_at after b ≡ with_bytes (block_at bs b) at bytes
  poke-here = grind (arith, nat_tests, cells_of, get_or-set_same, with_bytes, block_at, some-within)

  pub length-poke : (c : ℕ) → length (block_at after c) ≡ length (block_at bs c)
  length-poke c = grind (arith, nat_tests, common_steps)

  pub some-poke : (c : ℕ) → IsTrue (is_some (get_or bs c None)) → IsTrue (is_some (get_or after c None))
  some-poke c here = grind (arith, nat_tests, common_steps)

  some-is : (o : Option Cells) → IsTrue (is_some o) → o ≡ Some (cells_of o)
  some-is v0 no' = grind (arith, nat_tests, false≢true)

  -- the blocks keep their sizes
  pub sizes-poke : sizes_of after ≡ sizes_of bs
  sizes-poke = grind (
    arith,
    nat_tests,
    some-is (get_or bs b None) some,
    map-set (option_map length) bs b
        (Some (with_bytes (block_at bs b) at bytes)),
    length-with_bytes (block_at bs b) at bytes,
    map-set (option_map length) bs b
        (Some (block_at bs b)),
    set-get_or bs b None,
  )

  -- a chunk that the write does not touch
  module _ (head : ℕ) (room : at + length bytes ≤ length (block_at bs b)) (s : ChunkHeader) (stands : Stands head bs s)
      (apart : (s.place.block ≢ b) ⊎ ((s.place.offset + s.room ≤ at) ⊎ (at + length bytes + head ≤ s.place.offset))) where
    kept : (P : Cells → Type 0) → P (block_at bs s.place.block) → (s.place.block ≡ b → P (with_bytes (block_at bs b) at bytes))
        → P (block_at after s.place.block)
    kept P here there = grind (arith, nat_tests, common_steps)

    beside_bytes : s.place.block ≡ b → (s.place.offset + s.len ≤ at) ⊎ (at + length bytes ≤ s.place.offset)
    beside_bytes same = grind (arith, nat_tests)

    pub chunk-poke : contents_of after s ≡ contents_of bs s
    chunk-poke = grind (arith, nat_tests, common_steps, kept, read-kept, beside_bytes)

    pub stands-poke : Stands head after s
    stands-poke = grind (
      arith,
      nat_tests,
      common_steps,
      some-poke,
      length-poke,
      kept,
      written-kept_apart,
      beside_bytes,
      length-word_bytes,
      holds_kept,
    )
