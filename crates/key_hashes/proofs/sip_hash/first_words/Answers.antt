use Rattle.std.proofs.Common.{refl}
use Rattle.key_hashes.specs.SipHashes.{first_words}
use Rattle.key_hashes.proofs.sip_hash.first_words.Goals as goal

pub returns : goal.returns
unfolding first_words
returns c = refl
