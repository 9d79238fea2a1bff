use Rattle.std.proofs.Common.{◌≡◌}
use Rattle.key_hashes.specs.SipHashes.{first_words, with_words}
use Rattle.key_hashes.proofs.sip_hash.SipHashKeyHash.key_hash.Given as goal

abbrev pub invariant-loop-place : goal.invariant-loop-place
invariant-loop-place l = l.words ≡ with_words (first_words l.self.seed) l.key l.place
