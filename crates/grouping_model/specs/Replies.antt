-- What is replied to a batch, and what is listed of what is known. All of this is our own.
use Rattle.std.specs.Prelude.{ℕ, ◌+◌, ◌≤◌, ◌==◌, List, map, if◌then◌else◌}
use Rattle.grouping_model.specs.declared.delivered.Delivered.{Delivered}
use Rattle.grouping_model.specs.declared.delivered.Delivered.TheVariants as reply
use Rattle.grouping_model.specs.declared.limits.TheConstants.{LAST_ORIGIN, LAST_NUMBER}
use Rattle.grouping_model.specs.World.{Batch, Knowledge, knows, learn, prefix, early, origins}

-- a batch within the limits
abbrev pub InLimits : Batch → Type 0
InLimits batch = (batch.0 ≤ LAST_ORIGIN) × (1 ≤ batch.1) × (batch.1 ≤ LAST_NUMBER)

-- what is replied to a batch
abbrev pub reply_of : Knowledge → Batch → Delivered
reply_of knowledge batch =
    if knows knowledge batch then reply.Known else
    if batch.1 == prefix knowledge batch.0 + 1 then reply.Folded (prefix (learn knowledge batch) batch.0) else reply.Early

-- what is known of an origin: its unbroken prefix and its early numbers
pub record KnownOrigin : Type 0 where
  pub origin : ℕ
  pub upto : ℕ
  pub early : List ℕ

-- what is known, origin by origin
abbrev pub of_origin : Knowledge → ℕ → KnownOrigin
of_origin knowledge origin = record { origin = origin; upto = prefix knowledge origin; early = early knowledge origin }

abbrev pub known_list : Knowledge → List KnownOrigin
known_list knowledge = map (of_origin knowledge) (origins knowledge)
