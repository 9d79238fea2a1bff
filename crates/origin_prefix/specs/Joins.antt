-- Joining two parts of one origin. All of this is our own.
use Rattle.std.specs.Prelude.{◌≡◌, ◌≢◌, ℕ, ◌+◌, ◌<◌, ◌≤◌, ◌⊎◌, max, nat_lt, nat_eq, Bool, List, [], map, length, Option, Some, None}
use Rattle.std.specs.Prelude.{option_map}
use Rattle.std.specs.Prelude.{unwrap_or}
use Rattle.std.specs.Prelude.{if◌then◌else◌, Result, IfOk, IfErr, OnOk, IsSome}
use Rattle.std.specs.List.{AllByRecursion}
use Rattle.std.specs.List.Sorted.{IsStrictlySortedBy}
use Rattle.std.specs.Ordering.{nat_cmp}
use Rattle.grouping_model.specs.Query.{Query}
use Rattle.aggregation_cost.specs.Space.{Setting}
use Rattle.hash_agg.specs.Counting.{AreCounted}
use Rattle.hash_agg.specs.declared.work.Work.{Work}
use Rattle.origin_prefix.specs.declared.error.JoinError.{JoinError}
use Rattle.origin_prefix.specs.declared.error.JoinError.TheVariants.{OriginDisagrees, Spill}
use Rattle.query_checks.specs.Checks.{Checked}
use Rattle.spill_partitions.specs.declared.error.SpillError.TheVariants.{NoMemory}
use Rattle.having_filter.specs.Meaning.{meaning}
use Rattle.origin_prefix.specs.Parts.{Batches, Part, rows_at, IsPartOf, Drains, aggregations_behind}

-- the part with the longer prefix, and the other
abbrev pub longer : Part → Part → Part
longer a b = if nat_lt a.prefix b.prefix then b else a

abbrev pub shorter : Part → Part → Part
shorter a b = if nat_lt a.prefix b.prefix then a else b

-- one of two values that may be absent
abbrev pub either : {X : Type 0} → Option X → Option X → Option X
either None y = y
either (Some x) y = Some x

-- a number after another one is in both, with different rows
pub record DiffersAt (above : ℕ) (one other : Batches) (number : ℕ) : Type 0 where
  pub behind : above < number
  pub rows : List (List ℕ)
  pub those : List (List ℕ)
  pub there : rows_at one number ≡ Some rows
  pub there_too : rows_at other number ≡ Some those
  pub differ : rows ≢ those

abbrev pub DiffersBehind : ℕ → Batches → Batches → Type 0
DiffersBehind above one other = (number : ℕ) × DiffersAt above one other number

-- the first such number, or that there is none
abbrev pub IsFirstDifference : ℕ → Batches → Batches → Option ℕ → Type 0
IsFirstDifference above one other None = ¬ (DiffersBehind above one other)
IsFirstDifference above one other (Some number) = DiffersAt above one other number
    × ((lower : ℕ) → lower < number → ¬ (DiffersAt above one other lower))

-- two parts disagree: the same prefix has different groups, or a number after both prefixes has different rows
abbrev pub PartsDisagree : Part → Part → Type 0
PartsDisagree a b = ((a.prefix ≡ b.prefix) × (a.run ≢ b.run)) ⊎ DiffersBehind (max a.prefix b.prefix) a.early b.early

-- their first disagreement: the groups of the same prefix, or the first such number
abbrev pub DisagreeAt : Option ℕ → Part → Part → Type 0
DisagreeAt None a b = (a.prefix ≡ b.prefix) × (a.run ≢ b.run)
DisagreeAt (Some number) a b = (a.prefix ≡ b.prefix → a.run ≡ b.run)
    × IsFirstDifference (max a.prefix b.prefix) a.early b.early (Some number)

-- what a refusal to join two parts says of them: their first disagreement, or else that they agree. The disk is a reason only where early
-- batches of the shorter part follow the longer prefix, so that they would be folded
abbrev pub JoinTells : JoinError → Part → Part → Type 0
JoinTells (OriginDisagrees number) a b = DisagreeAt number a b
JoinTells (Spill error) a b = (¬ (PartsDisagree a b))
    × (error ≢ NoMemory → IsSome (rows_at (shorter a b).early ((longer a b).prefix + 1)))

-- the batches behind a number that are early in either of two parts, by ascending number
pub record Unites (prefix : ℕ) (a b : Part) (behind : Batches) : Type 0 where
  pub rising : IsStrictlySortedBy nat_cmp (map (λ (batch : ℕ × List (List ℕ)). batch.0) behind)
  pub above : AllByRecursion (λ (batch : ℕ × List (List ℕ)). prefix < batch.0) behind
  pub rows : (number : ℕ) → prefix < number → rows_at behind number ≡ either (rows_at a.early number) (rows_at b.early number)

-- the batches of some behind a number are among others, with the same rows
abbrev pub AreAmong : ℕ → Batches → Batches → Type 0
AreAmong above some others =
    (number : ℕ) → above < number → (rows : List (List ℕ)) → rows_at some number ≡ Some rows → rows_at others number ≡ Some rows

-- a part includes another one: its prefix is as long at least, with the same groups where both are as long. It has the early batches of the
-- other that are behind its prefix
pub record Includes (own other : Part) : Type 0 where
  pub longer : other.prefix ≤ own.prefix
  pub groups : own.prefix ≡ other.prefix → own.run ≡ other.run
  pub early : AreAmong own.prefix other.early own.early

-- the join of two parts: the longer prefix's groups, and the early batches of both, folded as far as they follow
pub record Joins (honest : Bool) (query : Query) (a b new : Part) : Type 0 where
  pub behind : Batches
  pub united : Unites (longer a b).prefix (longer a b) (shorter a b) behind
  pub drained : Drains honest query (longer a b).prefix (longer a b).run behind new

-- joining two parts: they agree and give a part of the query, or the refusal says why not
pub record Joining (honest : Bool) (query : Checked) (a b : Part) (result : Result Part JoinError) : Type 0 where
  pub joins : IfOk result (Joins honest (meaning query) a b)
  pub part : IfOk result (IsPartOf query)
  pub agree : OnOk result (¬ (PartsDisagree a b))
  pub tells : IfErr result (λ why. JoinTells why a b)

-- what a place holds, if it is there, once rows that may be there were put into it
abbrev pub put_into : (place rows : Option (List (List ℕ))) → Option (List (List ℕ))
put_into None rows = None
put_into (Some empty) rows = either rows (Some empty)

-- batches in places under the same numbers: those that are kept, and where none is kept what stands in the place
abbrev pub with_rows : (kept places : Batches) → Batches
with_rows kept places = map (λ (place : ℕ × List (List ℕ)). (place.0, unwrap_or (rows_at kept place.0) place.1)) places

-- a part keeps its prefix and its groups, and has the early batches that stand aside for it, or its own where none do
abbrev pub gaining : (own aside : Part) → Part
gaining own aside = record {
  prefix = own.prefix;
  run = own.run;
  early = if nat_eq (length aside.early) 0 then own.early else with_rows own.early aside.early;
}

-- a part takes in what stands aside for it: a part with a prefix in its place, and else the early batches alone
abbrev pub settled : (own aside : Part) → Part
settled own aside = if nat_eq aside.prefix 0 then gaining own aside else aside

-- a part keeps its prefix and its groups if the other one's prefix is not longer and none of its early batches follow
pub record KeepsGroups (own other : Part) : Type 0 where
  pub longer : other.prefix ≤ own.prefix
  pub gap : rows_at other.early (own.prefix + 1) ≡ None

-- the early batches of two parts of which the first keeps its groups stand aside for it, with a place for each of its own
pub record StandAside (own other aside : Part) : Type 0 where
  pub prefix : aside.prefix ≡ 0
  pub run : aside.run ≡ []
  pub rising : IsStrictlySortedBy nat_cmp (map (λ (batch : ℕ × List (List ℕ)). batch.0) aside.early)
  pub rows : (number : ℕ) → rows_at aside.early number ≡ either (option_map (λ _. []) (rows_at own.early number))
      (if nat_lt own.prefix number then rows_at other.early number else None)

-- two parts are joined aside from both: what the first becomes by taking that in is what both give, or what refuses them says why
pub record JoiningAside (honest : Bool) (query : Checked) (a b : Part) (result : Result Part JoinError) : Type 0 where
  pub joins : IfOk result (λ aside. Joins honest (meaning query) a b (settled a aside))
  pub part : IfOk result (λ aside. IsPartOf query (settled a aside))
  pub groups : IfOk result (λ aside. aside.prefix ≡ 0 → aside.run ≡ [])
  pub agree : OnOk result (¬ (PartsDisagree a b))
  pub tells : IfErr result (λ why. JoinTells why a b)

-- the cost of joining two parts was counted: the aggregation of the early batches of both that follow the longer prefix
pub record UniteIsCounted (long short : Part) (query : Query) (setting : Setting) (old : Work) (writes : ℕ) (new : Work) (written : ℕ) :
    Type 0 where
  pub behind : Batches
  pub united : Unites long.prefix long short behind
  pub counted : AreCounted (aggregations_behind long.prefix behind) query setting old writes new written

abbrev pub JoinIsCounted : (a b : Part) → Query → Setting → Work → ℕ → Work → ℕ → Type 0
JoinIsCounted a b = UniteIsCounted (longer a b) (shorter a b)

-- joining a part with another one gives it again: both agree, and nothing is aggregated
pub record StaysJoined (query : Checked) (own other : Part) : Type 0 where
  pub joins : (honest : Bool) → Joins honest (meaning query) own other own
  pub agree : ¬ (PartsDisagree own other)
  pub counted : (setting : Setting) (work : Work) (writes : ℕ) → JoinIsCounted own other (meaning query) setting work writes work writes
