-- The hash function FNV-1a of 32 bits (RFC 9923, 2).
use Rattle.std.specs.Prelude.{ℕ, ◌*◌, ◌%◌, List, [], ◌∷◌}
use Rattle.std.specs.Int.Bits.{bit_xor}

-- one more byte: it is xored in, and the result is multiplied by the prime, modulo 2^32
abbrev pub with_byte : ℕ → ℕ → ℕ
with_byte hash byte = (bit_xor hash byte * 16777619) % 4294967296

abbrev pub with_all : ℕ → List ℕ → ℕ
with_all hash [] = hash
with_all hash (byte ∷ bytes) = with_all (with_byte hash byte) bytes

-- the hash: from the offset basis on, byte by byte
abbrev pub fnv_1a : List ℕ → ℕ
fnv_1a bytes = with_all 2166136261 bytes
