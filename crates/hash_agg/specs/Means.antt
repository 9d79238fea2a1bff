-- What an aggregation may use. All of this is our own.
use Rattle.std.specs.Prelude.{ℕ, ◌≤◌}
use Rattle.key_hashes.specs.declared.sip_hash.Seed.{Seed}
use Rattle.hash_agg.specs.declared.means.TheConstants.{MIN_LIMIT, MAX_LIMIT}

-- the most bytes of blocks that the table of groups may take; the hash function by which keys are spilled; and the seed of the hash
-- function by which the table finds them. No result depends on the seed
pub record MeansState (H : Type 0) : Type 0 where
  pub limit : ℕ
  pub hash : H
  pub seed : Seed

abbrev pub AreMeans : ℕ → Type 0
AreMeans limit = (MIN_LIMIT ≤ limit) × (limit ≤ MAX_LIMIT)
