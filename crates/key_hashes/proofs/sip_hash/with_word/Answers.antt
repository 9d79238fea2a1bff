use Rattle.key_hashes.specs.SipHashes.{with_word}
use Rattle.key_hashes.proofs.sip_hash.with_word.Goals as goal

pub returns : goal.returns
unfolding with_word
returns c = simp c.round-v0.ensures
