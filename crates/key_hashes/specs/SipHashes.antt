-- The hash function SipHash-1-3 (J.-P. Aumasson, D. J. Bernstein: SipHash, a fast short-input PRF, 2012): one round a word, and
-- three at the end. Its words have 64 bits.
use Rattle.std.specs.Prelude.{ℕ, zero, suc, ◌+◌, ◌*◌, ◌/◌, ◌%◌, ◌^◌, List, [], ◌∷◌, length, slice_index}
use Rattle.std.specs.Int.Bits.{bit_or, bit_xor}
use Rattle.std.specs.Int.{w64, rotate_left, from_le_bytes}
use Rattle.key_hashes.specs.declared.sip_hash.Seed.{Seed}
use Rattle.key_hashes.specs.declared.sip_hash.SipHash.{SipHash}
use Rattle.key_hashes.specs.declared.sip_hash.Words.{Words}

-- the sum of two words, modulo 2^64
abbrev pub sum_of : ℕ → ℕ → ℕ
sum_of x y = (x + y) % 2 ^ 64

-- one SipRound, in two halves that are alike but for the numbers of places
unfoldable pub round : Words → Words
round v =
    let a0 = sum_of v.v0 v.v1 in
    let a2 = sum_of v.v2 v.v3 in
    let a1 = bit_xor (rotate_left w64 v.v1 13) a0 in
    let a3 = bit_xor (rotate_left w64 v.v3 16) a2 in
    let b0 = sum_of (rotate_left w64 a0 32) a3 in
    let b2 = sum_of a2 a1 in
    record { v0 = b0; v1 = bit_xor (rotate_left w64 a1 17) b2; v2 = rotate_left w64 b2 32; v3 = bit_xor (rotate_left w64 a3 21) b0 }

-- the seed, xored into the letters "somepseudorandomlygeneratedbytes"
unfoldable pub first_words : Seed → Words
first_words seed = record {
  v0 = bit_xor seed.low 0x736f6d6570736575;
  v1 = bit_xor seed.high 0x646f72616e646f6d;
  v2 = bit_xor seed.low
      0x6c7967656e657261;
  v3 = bit_xor seed.high 0x7465646279746573;
}

-- one more word of the key
unfoldable pub with_word : Words → ℕ → Words
with_word v word =
    let t = round (record { v0 = v.v0; v1 = v.v1; v2 = v.v2; v3 = bit_xor v.v3 word }) in
    record { v0 = bit_xor t.v0 word; v1 = t.v1; v2 = t.v2; v3 = t.v3 }

-- the eight bytes from a place on, the lowest first
abbrev pub word_at : List ℕ → ℕ → ℕ
word_at key at = from_le_bytes w64 (slice_index key at ∷ slice_index key (at + 1) ∷ slice_index key (at + 2) ∷ slice_index key (at + 3)
    ∷ slice_index key (at + 4) ∷ slice_index key (at + 5) ∷ slice_index key (at + 6) ∷ slice_index key (at + 7) ∷ [])

-- the state after the first whole words of a key
abbrev pub with_words : Words → List ℕ → ℕ → Words
with_words v key zero = v
with_words v key (suc n) = with_word (with_words v key n) (word_at key (8 * n))

-- a word with the first bytes of a key from a place on, the first lowest
abbrev pub with_bytes : ℕ → List ℕ → ℕ → ℕ → ℕ
with_bytes word key at zero = word
with_bytes word key at (suc n) = bit_or (with_bytes word key at n) ((slice_index key (at + n) * 2 ^ (8 * n)) % 2 ^ 64)

-- the bytes after the last whole word, and the length in the topmost byte
abbrev pub last_word : List ℕ → ℕ
last_word key = with_bytes ((length key % 256 * 2 ^ 56) % 2 ^ 64) key (length key / 8 * 8) (length key % 8)

unfoldable pub finished : Words → ℕ
finished v =
    let t = round (round (round (record { v0 = v.v0; v1 = v.v1; v2 = bit_xor v.v2 0xff; v3 = v.v3 }))) in
    bit_xor (bit_xor (bit_xor t.v0 t.v1) t.v2) t.v3

-- the hash of a key
abbrev pub sip_hash : Seed → List ℕ → ℕ
sip_hash seed key = finished (with_word (with_words (first_words seed) key (length key / 8)) (last_word key))

-- the low 32 bits of it
abbrev pub low_hash : SipHash → List ℕ → ℕ
low_hash h key = sip_hash h.seed key % 2 ^ 32
