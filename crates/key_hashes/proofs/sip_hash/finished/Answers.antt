use Rattle.key_hashes.specs.SipHashes.{finished}
use Rattle.key_hashes.proofs.sip_hash.finished.Goals as goal

pub returns : goal.returns
unfolding finished
returns c = simp (c.round-last.ensures, c.round-2.ensures, c.round.ensures)
