-- What a session holds. All of this is our own.
use Rattle.std.specs.Prelude.{ℕ}
use Rattle.hash_agg.specs.declared.work.Work.{Work}
use Rattle.key_hashes.specs.declared.sip_hash.Seed.{Seed}
use Rattle.replica_merge.specs.Replicas.{Held}

-- a replica, the limit and the seed of its aggregations, and what they took
pub record SessionState : Type 0 where
  pub held : Held
  pub limit : ℕ
  pub seed : Seed
  pub work : Work
