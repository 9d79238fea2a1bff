use Rattle.std.proofs.Common.{◌≡◌, drop}
use Rattle.key_hashes.specs.Hashes.{fnv_1a, with_all}
use Rattle.key_hashes.proofs.hash.Fnv1aKeyHash.key_hash.Given as goal

abbrev pub invariant-loop-byte : goal.invariant-loop-byte
invariant-loop-byte l = with_all l.hash (drop l.byte-index l.key) ≡ fnv_1a l.key
