-- Laws: the number in some bytes, highest first, has these bytes; and what bytes that denote a state look like. Nothing here is a
-- definition.
use Rattle.std.proofs.Common.{◌≡◌, ℕ, ◌^◌, ◌<◌, List, ◌++◌, ap, ◌∙◌}
use Rattle.std.specs.Int.{bytes_high_first}
use Rattle.byteorder.specs.Endian.{big_from}
use Rattle.byteorder.specs.Numbers.{big_number-reads_back}

-- the number that has some bytes
pub reads : (n x : ℕ) (bytes rest : List ℕ) → x < 256 ^ n → bytes ≡ bytes_high_first n x ++ rest → big_from 0 n bytes ≡ x
reads n x bytes rest h e = ap (big_from 0 n) e ∙ big_number-reads_back n x rest h
