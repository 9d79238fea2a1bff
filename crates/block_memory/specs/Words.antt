-- A word is a number below 2^64, which stands in eight cells with its highest byte first. All of this is our own.
use Rattle.std.specs.Prelude.{ℕ, List}
use Rattle.std.specs.Int.{w64, to_be_bytes}

-- the eight bytes of a word, the highest first
unfoldable pub word_bytes : ℕ → List ℕ
word_bytes word = to_be_bytes w64 word
