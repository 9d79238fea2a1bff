use Rattle.std.proofs.Common.{◌≡◌, ◌*◌, ◌%◌, ◌/◌, ◌^◌, length}
use Rattle.key_hashes.specs.SipHashes.{with_bytes}
use Rattle.key_hashes.proofs.sip_hash.last_word.Given as goal

abbrev pub invariant-loop-place : goal.invariant-loop-place
invariant-loop-place l = l.word ≡ with_bytes ((length l.key % 256 * 2 ^ 56) % 2 ^ 64) l.key (length l.key / 8 * 8) l.place
